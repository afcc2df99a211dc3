use Rattle.std.proofs.Common.{◌≡◌, List, [], length, ap, sym, ◌∙◌}
use Rattle.acl_match.specs.declared.entry.AclEntry.{AclEntry as Network}
use Rattle.vcl_check.specs.Acls.{with_acls}
use Rattle.vcl_check.specs.Declarations.{declarations, known_of, names_of}
use Rattle.vcl_check.specs.Mentions.{Said}
use Rattle.vcl_check.specs.Reaching.{AreReached, numbered_names}
use Rattle.vcl_check.specs.Texts.{AreRefused, pattern_texts}
use Rattle.vcl_check.proofs.FirstLemmas.{first-text, refused-none, told-none}
use Rattle.vcl_check.proofs.faults.found_by.Goals as goal

pub returns-clause-first : goal.returns-clause-first
returns-clause-first c =
    let names = c.args.names.now in
    let said = c.as_slice-said.result.now in
    let declared = c.as_slice-declared.result.now in
    let rows = c.as_slice-rows.result.now in
    let places = c.as_slice.result.now in
    let listed : declared ≡ declarations said = rw (c.as_slice-declared.ensures.value, c.as_slice-said.ensures.value) c.requires.declared in
    let known : names.tables ≡ known_of said c.args.stored.now = rw c.as_slice-said.ensures.value c.requires.tables in
    let numbers : names.numbers ≡ numbered_names (names_of declared) = rw c.as_slice-declared.ensures.value c.requires.numbers in
    let thirteen : length rows ≡ 13 = rw c.as_slice-rows.ensures.value c.in-Ok.ensures.thirteen in
    let reached : AreReached c.in_ok-graph.graph.calls 0 rows = rw c.as_slice-rows.ensures.value c.in-Ok.ensures.reached in
    let tried : AreRefused said places = rw c.as_slice.ensures.value c.in-Ok-try_patterns.ensures.refused in
    rw (c.first_of-fault.ensures, c.fault_at-circle.ensures)
    (first-text c.args.items.now c.args.stored.now said declared names.tables names.numbers c.in_ok-graph.graph.calls rows places
    c.in-Ok-first_on_circle.on_circle c.unknown_among-unknown.result c.twice_declared-twice.result c.in-Ok-among_items.inside c.among_refused-refused.result
    (c.as_slice-said.ensures.value ∙ c.requires.said) listed known numbers c.in_ok-graph.ensures.calls thirteen reached tried
    c.in-Ok-first_on_circle.ensures c.unknown_among-unknown.ensures c.twice_declared-twice.ensures c.in-Ok-among_items.ensures.told c.among_refused-refused.ensures)

pub returns-clause-patterns : goal.returns-clause-patterns
returns-clause-patterns c = λ e.
    c.in-Ok-try_patterns.ensures.built (sym c.as_slice.ensures.value ∙ refused-none c.as_slice.result.now (sym c.among_refused-refused.ensures ∙ (told-none c.unknown_among-unknown.result c.twice_declared-twice.result c.in-Ok-among_items.inside c.fault_at-circle.result c.among_refused-refused.result (sym c.first_of-fault.ensures ∙ e)).1))
    ∙ ap (λ (s : List Said). pattern_texts s) (c.as_slice-said.ensures.value ∙ c.requires.said)

pub returns-clause-acls : goal.returns-clause-acls
returns-clause-acls c = λ e.
    let none : c.new-acls.result.items ≡ [] = cc in
    c.in-Ok-among_items.ensures.acls (told-none c.unknown_among-unknown.result c.twice_declared-twice.result c.in-Ok-among_items.inside c.fault_at-circle.result c.among_refused-refused.result (sym c.first_of-fault.ensures ∙ e)).0
    ∙ ap (λ (before : List (List Network)). with_acls before c.args.items.now) none
