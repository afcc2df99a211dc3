-- A ban is shown by the lines that do its work, whatever the moment of its issue.
use Rattle.std.proofs.Common.{◌≡◌, ℕ, Bool, true, false, cond, not, List, [], ◌∷◌, ◌&&◌, ◌||◌, nat_le, map, filter, refl, ap, ◌∙◌}
use Rattle.std.specs.List.{list_any}
use Rattle.cache_law.specs.declared.ban.Ban.{Ban}
use Rattle.cache_law.specs.declared.ban.BanLine.{BanLine}
use Rattle.cache_law.specs.declared.ban.Issued.{Issued}
use Rattle.cache_law.specs.Bans.{is_shown, stands_for}
use Rattle.cache_law.specs.ShownBans.{those_open}
use Rattle.ban_lines.specs.Lines.{does_work}

shown_step : (ban : Issued) (line : BanLine) (lines : List BanLine) (completed : Bool)
    → ((not completed && (nat_le ban.number line.issued.number && stands_for ban line.issued)) || is_shown (those_open lines) ban)
    ≡ is_shown (map (λ (l : BanLine). l.issued) (cond (not completed) (line ∷ filter (λ (l : BanLine). not l.completed) lines) (filter (λ (l : BanLine). not l.completed) lines))) ban
shown_step ban line lines true = refl
shown_step ban line lines false = refl

pub shown_by : (number moment other : ℕ) (ban : Ban) (lines : List BanLine)
    → list_any (does_work (record { number = number; moment = other; ban = ban })) lines ≡ is_shown (those_open lines) (record { number = number; moment = moment; ban = ban })
unfolding stands_for
shown_by number moment other ban [] = refl
shown_by number moment other ban (line ∷ lines) =
    let issued : Issued = record { number = number; moment = moment; ban = ban } in
    ap (λ (b : Bool). does_work issued line || b) (shown_by number moment other ban lines) ∙ shown_step issued line lines line.completed
