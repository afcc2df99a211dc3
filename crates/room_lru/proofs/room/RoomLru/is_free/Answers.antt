use Rattle.std.proofs.Common.{not, ◌≡◌, ◌∙◌, sym, ap, ℤ, IsTrue}
use Rattle.std.specs.Int.{w128}
use Rattle.std.specs.BTreeSet.{contains}
use Rattle.std.proofs.lemmas.Bool.{not-true}
use Rattle.std.proofs.lemmas.Int.{to_z-of_z}
use Rattle.room_lru.specs.Ends.{by_end, IsFree}
use Rattle.room_lru.proofs.room.RoomLru.is_free.Goals as goal

pub returns : goal.returns
returns c =
    let asked : c.contains.result ≡ contains by_end c.self.inside.ends (c.args.end, c.args.handle) =
    c.contains.ensures ∙ ap (λ (end : ℤ). contains by_end c.self.inside.ends (end, c.args.handle)) (to_z-of_z w128 c.args.end c.ranges.end) in
    let same = sym (c.self.invariant.indexed (c.args.end, c.args.handle)) ∙ sym asked in
    let there : IsTrue (not c.contains.result) → IsFree (c.args.end, c.args.handle) c.self.inside.members.entries = λ free. same ∙ not-true c.contains.result free in
    let back : IsFree (c.args.end, c.args.handle) c.self.inside.members.entries → IsTrue (not c.contains.result) = λ free. ap not (sym same ∙ free) in
    rw (← c.self.view_is) (there, back)
