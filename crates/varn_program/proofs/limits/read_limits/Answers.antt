-- The words are texts, and those of the options are read.
use Rattle.std.proofs.Common.{sym, subst, ap, ◌∙◌, map, List, ℕ}
use Rattle.std.proofs.lemmas.Result.{IfOk-weaker}
use Rattle.cache_law.specs.declared.setting.Params.{Params}
use Rattle.varn_program.specs.Texts.{AreTexts}
use Rattle.varn_program.specs.Words.{AsksReplay}
use Rattle.varn_program.proofs.Texts.{all_utf8, texts_of}
use Rattle.varn_program.proofs.limits.read_limits.Goals as goal

pub texts_of-requires : goal.texts_of-requires
texts_of-requires c = all_utf8 c.args.words.now c.requires.0 c.requires.1

pub returns : goal.returns
returns c =
    let params = c.requires.0 in
    let words = c.args.words.now in
    let texts = texts_of words params c.requires.1 in
    let same = ap (map (λ s. s.now)) c.as_slice.ensures.value ∙ c.in_ok-texts.ensures in
    IfOk-weaker c.read_texts.result _ _
    (λ read told. subst (λ (p : Params). AsksReplay words p)
    (sym (told texts.0 texts.1 params (subst (λ (w : List (List ℕ)). AreTexts w texts.0 texts.1 params) (sym same) texts.2))) c.requires.1) c.read_texts.ensures
