use Rattle.vcl_values.proofs.ReplacementLemmas.{captured-is, replaced-regex}
use Rattle.vcl_values.proofs.CutLemmas.{limited, limited-in_turn, limited_is-cut}
use Rattle.std.proofs.Common.{◌≡◌, ◌∙◌, ◌-◌, ◌+◌, ap₂, refl, sym, arith, rules, length, take, List, subst}
use mathlib.Core.Path.{fun_ext}
use Rattle.regex.specs.Patterns.{Match, find_all}
use Rattle.regex.specs.Search.{first_or_all}
use Rattle.regex.specs.Bytes.{matcher_pattern, regex_source}
use Rattle.regex.specs.Replace.{group_bytes, replaced_by}
use Rattle.vcl_values.specs.Captured.{captured}
use Rattle.vcl_values.specs.Cuts.{IsCutFrom}
use Rattle.vcl_values.specs.Operators.{text_limit}
use Rattle.vcl_values.specs.Replacements.{written, replaced}
use Rattle.vcl_values.proofs.pattern.cut_replaced.Goals as goal

pub returns : goal.returns
returns c =
    let told = λ (m : Match). written (group_bytes c.args.text.now m) c.args.by.now in
    let ms : List Match = first_or_all c.limit_of.result (find_all (matcher_pattern c.in_ok-matcher.matcher) c.args.text.now) in
    let cut : c.in_ok-out.out.items ≡ limited told (text_limit + 1) c.args.text.now 0 ms = limited-in_turn _ (λ s room. (s.1.now ≡ c.args.by.now) × (s.2 ≡ room)) told
    (λ s m w next room kept writes.
    let step = writes.3.met in
    let expanded : writes.1.items ≡ take s.2 (written (captured writes.0.now) s.1.now) = search rules in
    let left : next.2 ≡ s.2 - length writes.1.items = search rules in
    let same : next.1.now ≡ s.1.now = search rules in (
      writes.4 ∙ expanded ∙ ap₂ take kept.1 (ap₂ written (fun_ext (captured-is c.args.text.now m writes.0.now writes.2)) kept.0),
      (same ∙ kept.0, left ∙ ap₂ (λ r x. r - length x) kept.1 (sym writes.4)),
    ))
    c.args.text.now ms _ (text_limit + 1) 0 c.in_ok-out.out.items (refl, refl) c.in_ok-out.ensures.value in
    let whole : replaced_by told c.args.text.now 0 ms ≡ replaced (regex_source c.args.regex.now) c.args.text.now c.args.by.now c.args.all = rw (c.limit_of.ensures, c.in_ok-matcher.ensures.pattern) (replaced-regex c.args.regex.now c.requires c.args.text.now c.args.by.now (λ k. omega (arith, c.type_inv.text k)) c.args.all) in
    rw cut (subst (λ t. IsCutFrom text_limit t (limited told (text_limit + 1) c.args.text.now 0 ms)) whole (limited_is-cut told c.args.text.now ms text_limit 0))
