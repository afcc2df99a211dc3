-- A cache begins alongside of a journal, and goes on alongside of it behind the end of a segment.
use Rattle.std.proofs.Common.{◌≡◌, ℕ, ◌<◌, ◌^◌, List, [], refl, sym, ap, ◌∙◌, subst}
use Rattle.cache_law.specs.declared.ban.Issued.{Issued}
use Rattle.cache_law.specs.declared.call.Entry.{Entry}
use Rattle.cache_law.specs.declared.setting.Boot.{Boot}
use Rattle.cache_law.specs.declared.setting.Params.{Params}
use Rattle.cache_law.specs.Bases.{AreAlike, IsClosed}
use Rattle.cache_law.specs.Beginning.{Beginning, base_of, beginning_of}
use Rattle.cache_law.specs.History.{reached}
use Rattle.cache_law.specs.State.{State, as_seen}
use Rattle.cache_law.proofs.GoingOn.{alike_of_alike, own_alike}
use Rattle.cache_law.proofs.Sound.{sound_boot}
use Rattle.cache_frame.specs.Framed.{Plain}
use Rattle.history_audit.specs.Alongside.{IsAlongside}

pub begins : (core : Plain) (params : Params) (boot : Boot) → params.history < 2 ^ 64 → core.beginning ≡ beginning_of params boot → core.entries ≡ [] → IsAlongside core 0 [] params (base_of boot) 0
begins core params boot bound begins_ none =
    let here : reached core.beginning core.entries ≡ base_of boot = ap (λ (b : Beginning). reached b core.entries) begins_ ∙ ap (λ (es : List Entry). reached (beginning_of params boot) es) none in
    record {
      limits = ap (λ (b : Beginning). b.params) begins_;
      bound = bound;
      alike = subst (λ (s : State). AreAlike s (base_of boot)) (sym here) (own_alike (base_of boot));
      sound = sound_boot boot;
      issued = refl;
      bans_are = refl;
      spent_is = refl;
    }

-- nothing is open in the one state where nothing is in the other
pub closed_on : (less state : State) → AreAlike less state → IsClosed less → IsClosed state
closed_on less state alike closed =
    record { rounds = sym (ap (λ (s : State). s.rounds) alike.rest) ∙ closed.rounds; fetches = sym (ap (λ (s : State). s.fetches) alike.rest) ∙ closed.fetches }

pub closed_back : (less state : State) → AreAlike less state → IsClosed state → IsClosed less
closed_back less state alike closed =
    record { rounds = ap (λ (s : State). s.rounds) alike.rest ∙ closed.rounds; fetches = ap (λ (s : State). s.fetches) alike.rest ∙ closed.fetches }

pub reopened : (old new : Plain) (spent : ℕ) (bans : List Issued) (params : Params) (state : State) (used : ℕ) → IsAlongside old spent bans params state used → new.entries ≡ [] → new.beginning.params ≡ old.beginning.params
    → AreAlike new.beginning.base (reached old.beginning old.entries) → IsAlongside new 0 bans params state 0
reopened old new spent bans params state used along none same alike =
    let here : reached new.beginning new.entries ≡ new.beginning.base = ap (λ (es : List Entry). reached new.beginning es) none in
    record {
      limits = same ∙ along.limits;
      bound = along.bound;
      alike = subst (λ (s : State). AreAlike s state) (sym here) (alike_of_alike (as_seen new.beginning.base) (as_seen (reached old.beginning old.entries)) (as_seen state) alike along.alike);
      sound = along.sound;
      issued = along.issued;
      bans_are = along.bans_are;
      spent_is = refl;
    }
