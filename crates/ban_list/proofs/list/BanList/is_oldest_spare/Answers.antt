use Rattle.std.proofs.Common.{arith, ◌≡◌, ◌<◌, ◌-◌, ◌∙◌, ℕ, sym, ap, subst, length, get_or}
use Rattle.std.specs.VecDeque.{deque_len}
use Rattle.ban_list.specs.Bans.{Bans, is_needed, is_wanted}
use Rattle.ban_list.specs.Kept.{IsWhole}
use Rattle.ban_list.proofs.CountLemmas.{last_below, last_needed, not_not}
use Rattle.ban_list.proofs.list.BanList.is_oldest_spare.Goals as goal

pub returns-in-Some-clause-needed : goal.returns-in-Some-clause-needed
returns-in-Some-clause-needed c = λ some.
    let lines = c.self.inside.lines.items in
    let bans : Bans = record { issued = c.self.inside.issued; lines = lines; placed = c.self.inside.placed.items; marked = c.self.inside.marked.items; objects = c.self.inside.objects } in
    let there : 0 < length lines = subst (λ (bans : Bans). 0 < length bans.lines) (sym c.self.view_is) some in
    let len : deque_len c.self.inside.lines ≡ length lines = omega (arith, c.self.inside.lines.ok) in
    let read : c.in-Some.line.now ≡ get_or lines (length lines - 1) c.in-Some.line.now =
    c.in-Some.ensures.lookup ∙ ap (λ (n : ℕ). get_or lines (n - 1) c.in-Some.line.now) len in
    let places = c.last_of.ensures ∙ sym (last_below lines c.self.inside.placed.items c.self.inside.objects c.self.invariant.3 there) in
    let marks = c.last_of-in-Some.ensures ∙ sym (last_below lines c.self.inside.marked.items c.self.inside.objects c.self.invariant.4 there) in
    let needed : is_needed bans (length lines - 1) ≡ is_wanted c.in-Some.line.now c.last_of.result c.last_of-in-Some.result =
    last_needed bans c.in-Some.line.now c.last_of.result c.last_of-in-Some.result there read places marks in
    let wanted = needed ∙ sym c.is_wanted.ensures ∙ sym (not_not c.is_wanted.result) in
    rw (← c.self.view_is) wanted

pub returns-in-Some-clause-whole : goal.returns-in-Some-clause-whole
returns-in-Some-clause-whole c =
    let bans : Bans = record { issued = c.self.inside.issued; lines = c.self.inside.lines.items; placed = c.self.inside.placed.items; marked = c.self.inside.marked.items; objects = c.self.inside.objects } in
    let whole : IsWhole bans = record { places = c.self.invariant.3.one_each; marks = c.self.invariant.4.one_each } in
    subst IsWhole c.self.view_is whole
