-- What clap gives for each option.
use Rattle.std.proofs.Common.{false, rules, ap, ap₂, ◌≡◌, ◌∙◌, sym, subst, List, Option, map, option_map, codes}
use Rattle.clap.proofs.WalkLemmas.{first_value-rows}
use Rattle.clap.specs.Walk.{Row, Text, rule_of, first_of}
use Rattle.clap.specs.Simple.{app_of, is_simple, with_rule, matches_of}
use Rattle.clap.specs.Matches.{found_of}
use Rattle.varn_program.specs.Texts.{IsValue}
use Rattle.varn_program.proofs.Options.{room, history, app, simple, read_all}
use Rattle.varn_program.proofs.Texts.{values_of}
use Rattle.varn_program.proofs.limits.read_texts.Goals as goal

pub returns-in-Ok : goal.returns-in-Ok
returns-in-Ok c = λ a b params texts.
    let room_is : rule_of c.long-room.result ≡ room = search rules in
    let history_is : rule_of c.long-history.result ≡ history = search rules in
    let app_is : app_of c.in_ok-command.command ≡ app = c.in_ok-command.ensures.shape (search rules)
    ∙ ap₂ with_rule (c.in_ok-arg.ensures.shape (search rules) ∙ ap₂ with_rule c.new-3.ensures.app room_is) history_is in
    let words = map (λ s. s.now) c.args.words.now in
    let found = (c.in-Ok.ensures.matches (ap is_simple app_is ∙ simple)).0 ∙ ap (λ x. matches_of x words) app_is in
    let both = read_all words a b params texts in
    let of_room : option_map (λ s. s.now) c.get_str.result ≡ a =
    c.get_str.ensures ∙ first_value-rows (found_of c.in-Ok.matches) (codes "room") ∙ ap (λ (rows : List Row). first_of (codes "room") rows) found ∙ both.0 in
    let of_history : option_map (λ s. s.now) c.get_str-in-Ok.result ≡ b =
    c.get_str-in-Ok.ensures ∙ first_value-rows (found_of c.in-Ok.matches) (codes "history") ∙ ap (λ (rows : List Row). first_of (codes "history") rows) found ∙ both.1 in
    let values = values_of words a b params texts in
    let room_read = c.number_or.ensures params.room (subst (λ (t : Option Text). IsValue t params.room) (sym of_room) values.0) in
    let history_read = c.number_or-in-Ok.ensures params.history (subst (λ (t : Option Text). IsValue t params.history) (sym of_history) values.1) in
    let whole : false ≡ params.segments = sym values.2 in
    λ i. record { room = room_read i; history = history_read i; segments = whole i }
