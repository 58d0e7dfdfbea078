use Rattle.std.proofs.Common.{rules, SFits, w64}
use Rattle.std.proofs.lemmas.Int.{to_z-of_z}
use Rattle.location_report.proofs.ListLaws.{place_text}
use Rattle.location_report.proofs.lines.push_place.Goals as goal

pub returns : goal.returns
returns c =
    let fits_x : SFits w64 c.args.x = search rules in
    let fits_y : SFits w64 c.args.y = search rules in
    let fits_z : SFits w64 c.args.z = search rules in
    place_text c.args.place c.args.x c.args.y c.args.z c.args.out.now.items c.push_node.new.out.items c.push_way.new.out.items
    c.push_way-2.new.out.items c.push_way-3.new.out.items c.push.new.self.items c.in_ok-push_node.ensures
    (simp to_z-of_z at c.in_ok-push_way.ensures) (simp to_z-of_z at c.in_ok-push_way-2.ensures) (simp to_z-of_z at c.in_ok-push_way-3.ensures)
    c.in_ok-push.ensures.items
