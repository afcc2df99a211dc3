use Rattle.std.proofs.Common.{rules, ◌≡◌, ℕ, ◌+◌, List, [], ◌∷◌, ◌++◌, take, subst, sym, ap, ◌∙◌}
use Rattle.std.proofs.lemmas.List.{take_more, take_all}
use Rattle.std.specs.List.{join_with_byte}
use Rattle.cli_console.proofs.Lines.{joined_behind, joined_next, joined_whole}
use Rattle.cli_console.proofs.listings.push_joined.Goals as goal

pub loop-line-preserved : goal.loop-line-preserved
loop-line-preserved c =
    let i = c.loop-line.line-index in
    let rest = c.in-Some.rest.now in
    let more : take (i + 1) rest ≡ take i rest ++ c.line-item.result ∷ [] =
    take_more rest i _ c.loop-line-test.true ∙ ap (λ w. take i rest ++ w ∷ []) (sym c.line-item.is) in
    let at : List (List ℕ) → Type 0 = λ w. c.push_next.new.out.items ≡ c.extend_from_slice.new.self.items ++ joined_behind w in
    subst at (sym more) (joined_next c.extend_from_slice.new.self.items c.loop-line.out.items _ (take i rest) c.line-item.result c.loop-line.invariant c.in_ok-push_next.ensures)

pub returns : goal.returns
returns c =
    let i = c.loop-line.line-index in
    let rest = c.in-Some.rest.now in
    let whole = take_all i rest c.loop-line-test.false in
    let here : c.loop-line.out.items ≡ c.extend_from_slice.new.self.items ++ joined_behind rest =
    c.loop-line.invariant ∙ ap (λ w. c.extend_from_slice.new.self.items ++ joined_behind w) whole in
    let lines : c.args.lines.now ≡ c.in-Some.first.now ∷ rest = search rules in
    let begun : c.extend_from_slice.new.self.items ≡ c.args.out.now.items ++ c.in-Some.first.now = search rules in
    joined_whole c.args.out.now.items c.extend_from_slice.new.self.items c.loop-line.out.items c.in-Some.first.now rest begun here
    ∙ ap (λ w. c.args.out.now.items ++ join_with_byte 10 w) (sym lines)
