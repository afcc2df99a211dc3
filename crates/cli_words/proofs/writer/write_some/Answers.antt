use Rattle.std.proofs.Common.{◌≡◌, List, ℕ, ◌+◌, ◌++◌, ◌∷◌, [], take, subst, sym, ap, ◌∙◌}
use Rattle.std.specs.List.{AllByRecursion}
use Rattle.std.proofs.lemmas.List.{take_more, take_all}
use Rattle.cli_words.specs.Words.{words_text, word_text, IsBytes}
use Rattle.cli_words.proofs.Written.{text_push, all_push, written_ok}
use Rattle.cli_words.proofs.writer.write_some.Goals as goal

pub loop-word-preserved : goal.loop-word-preserved
loop-word-preserved c =
    let more : take (c.loop-word.word-index + 1) c.args.rest.now ≡ take c.loop-word.word-index c.args.rest.now ++ c.word-item.result ∷ [] =
    take_more c.args.rest.now c.loop-word.word-index _ c.loop-word-test.true ∙ ap (λ w. take c.loop-word.word-index c.args.rest.now ++ w ∷ []) (sym c.word-item.is) in
    let at : List (List ℕ) → Type 0 = λ w. (c.push_next_word.new.out.items ≡ words_text (c.args.first.now ∷ w)) × AllByRecursion IsBytes (c.args.first.now ∷ w) in
    let text = c.in_ok-push_next_word.ensures.ok ∙ (ap (λ t. t ++ 32 ∷ word_text c.word-item.result) c.loop-word.invariant.0 ∙ sym (text_push c.args.first.now (take c.loop-word.word-index c.args.rest.now) c.word-item.result)) in
    subst at (sym more) (text, all_push (c.args.first.now ∷ take c.loop-word.word-index c.args.rest.now) c.word-item.result c.loop-word.invariant.1 c.in_ok-push_next_word.ensures.bytes)

pub returns-clause-read_again : goal.returns-clause-read_again
returns-clause-read_again c =
    let whole = take_all c.loop-word.word-index c.args.rest.now c.loop-word-test.false in
    let at : List (List ℕ) → Type 0 = λ w. (c.loop-word.out.items ≡ words_text (c.args.first.now ∷ w)) × AllByRecursion IsBytes (c.args.first.now ∷ w) in
    let here = subst at whole c.loop-word.invariant in
    written_ok c.from_vec.result c.loop-word.out.items (c.args.first.now ∷ c.args.rest.now) c.from_vec.ensures here.0 here.1
