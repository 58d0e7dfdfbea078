use Rattle.std.proofs.Common.{◌≡◌, ◌^◌, refl, sym, arith, take, get_or, pos}
use Rattle.std.specs.Int.{div_ceil}
use Rattle.std.proofs.lemmas.List.Sums.{sum_by_more}
use Rattle.std.proofs.lemmas.List.{take_all}
use Rattle.origin_time.specs.RootMeanSquare.{weighted_square, total_square}
use Rattle.origin_time.specs.Weights.{total_weight}
use Rattle.origin_time.proofs.Roots.{root_is, quotient_is_few}
use Rattle.origin_time.proofs.mean_square.rms.Goals as goal

pub loop-item-init : goal.loop-item-init
loop-item-init c = record { weight = refl; squares = refl; few = omega arith; small = omega arith }

pub loop-item-preserved : goal.loop-item-preserved
loop-item-preserved c =
    let kept = c.loop-item.invariant in
    let item = get_or c.args.items.now c.loop-item.item-index (pos 0, 0) in
    let limits = c.requires.items c.loop-item.item-index (pos 0, 0) c.loop-item-test.true in
    record {
      weight = rw (sum_by_more (λ x. x.1) c.args.items.now c.loop-item.item-index (pos 0, 0) c.loop-item-test.true, kept.weight, c.from-weight.ensures) refl;
      squares = rw (sum_by_more weighted_square c.args.items.now c.loop-item.item-index (pos 0, 0) c.loop-item-test.true, kept.squares, c.weighted_square-squares.ensures.value) refl;
      few = omega (arith, kept.few, c.from-weight.ensures, limits.weight);
      small = omega (arith, kept.small, c.from-weight.ensures, c.weighted_square-squares.ensures.bound);
    }

pub ceil_root-requires : goal.ceil_root-requires
ceil_root-requires c =
    let kept = c.loop-item.invariant in
    let all : take c.loop-item.item-index c.args.items.now ≡ c.args.items.now = take_all c.loop-item.item-index c.args.items.now c.loop-item-test.false in
    let weight : c.loop-item.weight ≡ total_weight c.args.items.now = rw all at kept.weight in
    rw c.mean_of.ensures (quotient_is_few c.loop-item.squares c.loop-item.weight (10 ^ 26) (omega (arith, weight, c.requires.weight)) kept.small)

pub returns : goal.returns
returns c =
    let kept = c.loop-item.invariant in
    let all : take c.loop-item.item-index c.args.items.now ≡ c.args.items.now = take_all c.loop-item.item-index c.args.items.now c.loop-item-test.false in
    let weight : c.loop-item.weight ≡ total_weight c.args.items.now = rw all at kept.weight in
    let squares : c.loop-item.squares ≡ total_square c.args.items.now = rw all at kept.squares in
    let quotient : c.mean_of.result ≡ div_ceil (total_square c.args.items.now) (total_weight c.args.items.now) = rw (sym weight, sym squares) c.mean_of.ensures in
    let root = c.ceil_root.ensures in
    root_is c.args.items.now c.ceil_root.result (omega (arith, c.requires.weight)) (rw quotient at root.enough) (rw quotient at root.least)
