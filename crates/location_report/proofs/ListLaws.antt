-- Lists that are walked from the front.
use Rattle.std.proofs.Common.{◌≡◌, ℕ, zero, suc, ◌+◌, ◌<◌, List, [], ◌∷◌, ◌++◌, map, take, get_or, length, refl, sym, ap, ◌∙◌, arith, append_assoc, append-nil, ℤ}
use Rattle.std.specs.Prelude.{All, codes, decimal, zip}
use Rattle.std.specs.Fmt.{signed_decimal}
use Rattle.std.specs.List.{join_with_byte}
use Rattle.std.proofs.lemmas.List.{get_or-map, length-map, map_more, take_more}
use Rattle.std.proofs.lemmas.List.Elements.{All-push}
use Rattle.std.proofs.lemmas.List.Concat.{flat_map-append}
use Rattle.text_terms.specs.Lines.{LineText}
use Rattle.cover_certificate.specs.BlockLines.{text_of_lines}
use Rattle.location_report.specs.Lines.{place_line}

-- the text of lines and of more lines
pub text-append : (lines more : List LineText) → text_of_lines (lines ++ more) ≡ text_of_lines lines ++ text_of_lines more
text-append lines more = flat_map-append (λ (line : LineText). line.bytes ++ 10 ∷ []) lines more

-- one item more has what the first ones have
pub all_more : {X : Type 0} (P : X → Type 0) (xs : List X) (i : ℕ) (d : X) → i < length xs → All P (take i xs) → P (get_or xs i d)
    → All P (take (i + 1) xs)
all_more P xs i d below some one = rw (take_more xs i d below) (All-push P (take i xs) (get_or xs i d) some one)

-- what is made of the first items, and of one more
pub made_more : {A B : Type 0} (f : A → B) (xs : List A) (i : ℕ) (d : A) (made all : List B) (one : B) → i < length xs → made ≡ map f (take i xs)
    → one ≡ f (get_or xs i d) → all ≡ made ++ one ∷ [] → all ≡ map f (take (i + 1) xs)
made_more f xs i d made all one below before is then_one = then_one ∙ rw (before, is) refl ∙ sym (map_more f xs i d below)

-- the pair at a place of two lists
pub zip_at : {X Y : Type 0} (xs : List X) (ys : List Y) (i : ℕ) (x : X) (y : Y) (d : X × Y) → i < length xs → i < length ys
    → get_or (zip xs ys) i d ≡ (get_or xs i x, get_or ys i y)
zip_at [] ys i x y d first second = absurd (omega (arith, first))
zip_at (a ∷ xs) [] i x y d first second = absurd (omega (arith, second))
zip_at (a ∷ xs) (b ∷ ys) zero x y d first second = refl
zip_at (a ∷ xs) (b ∷ ys) (suc i) x y d first second = zip_at xs ys i x y d (omega (arith, first)) (omega (arith, second))

pub zip_length : {X Y : Type 0} (xs : List X) (ys : List Y) → length ys ≡ length xs → length (zip xs ys) ≡ length xs
zip_length [] ys same = refl
zip_length (a ∷ xs) [] same = absurd (omega (arith, same))
zip_length (a ∷ xs) (b ∷ ys) same = ap suc (zip_length xs ys (omega (arith, same)))

-- the text of the lines of the first items, and of one more
pub line_more : {X : Type 0} (f : X → LineText) (xs : List X) (i : ℕ) (d : X) (before middle after : List ℕ) → i < length xs
    → middle ≡ before ++ text_of_lines (map f (take i xs)) → after ≡ middle ++ text_of_lines (f (get_or xs i d) ∷ [])
    → after ≡ before ++ text_of_lines (map f (take (i + 1) xs))
line_more f xs i d before middle after below first then_one =
    let more : text_of_lines (map f (take (i + 1) xs)) ≡ text_of_lines (map f (take i xs)) ++ text_of_lines (f (get_or xs i d) ∷ []) =
    ap text_of_lines (map_more f xs i d below) ∙ text-append (map f (take i xs)) (f (get_or xs i d) ∷ []) in
    then_one ∙ ap (λ text. text ++ text_of_lines (f (get_or xs i d) ∷ [])) first
    ∙ append_assoc before (text_of_lines (map f (take i xs))) (text_of_lines (f (get_or xs i d) ∷ []))
    ∙ ap (λ text. before ++ text) (sym more)

-- the text of three lists of lines, and of four
pub three_texts : (a b c : List LineText) (before one two three : List ℕ) → one ≡ before ++ text_of_lines a → two ≡ one ++ text_of_lines b
    → three ≡ two ++ text_of_lines c → three ≡ before ++ text_of_lines ((a ++ b) ++ c)
three_texts a b c before one two three first second third =
    let whole : text_of_lines ((a ++ b) ++ c) ≡ (text_of_lines a ++ text_of_lines b) ++ text_of_lines c =
    text-append (a ++ b) c ∙ ap (λ text. text ++ text_of_lines c) (text-append a b) in
    third ∙ rw (second, first, whole) (simp append_assoc)

pub four_texts : (a b c d : List LineText) (before one two three four : List ℕ) → one ≡ before ++ text_of_lines a → two ≡ one ++ text_of_lines b
    → three ≡ two ++ text_of_lines c → four ≡ three ++ text_of_lines d → four ≡ before ++ text_of_lines ((a ++ b) ++ (c ++ d))
four_texts a b c d before one two three four first second third fourth =
    let front : three ≡ before ++ text_of_lines ((a ++ b) ++ c) = three_texts a b c before one two three first second third in
    fourth ∙ ap (λ text. text ++ text_of_lines d) front
    ∙ append_assoc before (text_of_lines ((a ++ b) ++ c)) (text_of_lines d)
    ∙ ap (λ text. before ++ text) (sym (text-append ((a ++ b) ++ c) d))
    ∙ ap (λ lines. before ++ text_of_lines lines) (append_assoc (a ++ b) c d)

-- the pair at a place of two lists of one length
pub pair_at : {X Y Z : Type 0} (f : Y → Z) (xs : List X) (ys : List Y) (i : ℕ) (x : X) (y : Y) → i < length xs → length ys ≡ length xs
    → x ≡ get_or xs i x → y ≡ get_or ys i y → get_or (zip xs (map f ys)) i (x, f y) ≡ (x, f y)
pair_at f xs ys i x y below same first second =
    zip_at xs (map f ys) i x (f y) (x, f y) below (omega (arith, below, same, length-map ys f))
    ∙ ap (λ a. (a, get_or (map f ys) i (f y))) (sym first)
    ∙ ap (λ b. (x, b)) (get_or-map f ys i y (f y) (omega (arith, below, same)) ∙ ap f (sym second))

-- words parted by blanks, and one more
join_push : (x : List ℕ) (xs : List (List ℕ)) (y : List ℕ) → join_with_byte 32 ((x ∷ xs) ++ y ∷ []) ≡ join_with_byte 32 (x ∷ xs) ++ 32 ∷ y
join_push x [] y = refl
join_push x (w ∷ xs) y = ap (λ t. x ++ 32 ∷ t) (join_push w xs y) ∙ sym (append_assoc x (32 ∷ join_with_byte 32 (w ∷ xs)) (32 ∷ y))

word_more : (x : List ℕ) (xs : List (List ℕ)) (y before old new : List ℕ) → old ≡ before ++ join_with_byte 32 (x ∷ xs) → new ≡ old ++ 32 ∷ y
    → new ≡ before ++ join_with_byte 32 ((x ∷ xs) ++ y ∷ [])
word_more x xs y before old new first second =
    second ∙ ap (λ t. t ++ 32 ∷ y) first ∙ append_assoc before (join_with_byte 32 (x ∷ xs)) (32 ∷ y) ∙ ap (λ t. before ++ t) (sym (join_push x xs y))

-- the text of a place
pub place_text : (place : ℕ × ℕ × ℕ) (x y z : ℤ) (before node one two three whole : List ℕ)
    → node ≡ before ++ join_with_byte 32 (codes "HYPOCENTRE" ∷ decimal place.0 ∷ decimal place.1 ∷ decimal place.2 ∷ [])
    → one ≡ node ++ 32 ∷ signed_decimal x → two ≡ one ++ 32 ∷ signed_decimal y → three ≡ two ++ 32 ∷ signed_decimal z → whole ≡ three ++ 10 ∷ []
    → whole ≡ before ++ text_of_lines (place_line place x y z ∷ [])
unfolding place_line
place_text place x y z before node one two three whole first second third fourth fifth =
    let head : List ℕ = codes "HYPOCENTRE" in
    let a = word_more head (decimal place.0 ∷ decimal place.1 ∷ decimal place.2 ∷ []) (signed_decimal x) before node one first second in
    let b = word_more head (decimal place.0 ∷ decimal place.1 ∷ decimal place.2 ∷ signed_decimal x ∷ []) (signed_decimal y) before one two a third in
    let c = word_more head (decimal place.0 ∷ decimal place.1 ∷ decimal place.2 ∷ signed_decimal x ∷ signed_decimal y ∷ []) (signed_decimal z) before two three b fourth in
    fifth ∙ ap (λ t. t ++ 10 ∷ []) c ∙ append_assoc before (place_line place x y z).bytes (10 ∷ [])
    ∙ ap (λ t. before ++ t) (sym (append-nil ((place_line place x y z).bytes ++ 10 ∷ [])))
