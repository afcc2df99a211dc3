-- Places in a history that grows.
use Rattle.std.proofs.Common.{◌≡◌, ℕ, suc, ◌+◌, ◌≤◌, List, [], ◌∷◌, ◌++◌, length, sym, ap, ◌∙◌, arith}
use Rattle.std.proofs.lemmas.List.{append-nil, append_assoc, length-append}
use Rattle.cache_law.specs.declared.call.Call.{Call}
use Rattle.cache_law.specs.declared.call.Entry.{Entry}
use Rattle.cache_law.specs.declared.cache.Told.{Told}
use Rattle.cache_law.specs.declared.cache.StepError.{StepError}
use Rattle.cache_law.specs.Core.{entry_of}
use Rattle.turnstile.specs.Knowledge.{saw}
use Rattle.shared_cache.specs.Sharing.{CallerKnows, Called, Declined, made_before, numbers}
use Rattle.shared_cache.proofs.Numbers.{before_is}
use Rattle.round_lead.specs.Seen.{HasCalled, StandsAt, StandAt, RiseIn, count_seen}

pub stands_longer : (from : ℕ) (history more : List Entry) (place : ℕ) (entry : Entry) → StandsAt from history place entry → StandsAt from (history ++ more) place entry
stands_longer from history more place entry stands = record {
  before = stands.before;
  behind = stands.behind ++ more;
  is = ap (λ (h : List Entry). h ++ more) stands.is ∙ append_assoc stands.before (entry ∷ stands.behind) more;
  place_is = stands.place_is;
}

pub stand_longer : (from : ℕ) (history more : List Entry) (places : List ℕ) (entries : List Entry) → StandAt from history places entries → StandAt from (history ++ more) places entries
stand_longer from history more [] [] stand = tt
stand_longer from history more [] (entry ∷ entries) stand = absurd stand
stand_longer from history more (place ∷ places) [] stand = absurd stand
stand_longer from history more (place ∷ places) (entry ∷ entries) stand =
    (stands_longer from history more place entry stand.0, stand_longer from history more places entries stand.1)

pub stand_then : (from : ℕ) (history : List Entry) (places more : List ℕ) (entries others : List Entry) → StandAt from history places entries → StandAt from history more others
    → StandAt from history (places ++ more) (entries ++ others)
stand_then from history [] more [] others stand behind = behind
stand_then from history [] more (entry ∷ entries) others stand behind = absurd stand
stand_then from history (place ∷ places) more [] others stand behind = absurd stand
stand_then from history (place ∷ places) more (entry ∷ entries) others stand behind = (stand.0, stand_then from history places more entries others stand.1 behind)

rise_lower : (low mid high : ℕ) (places : List ℕ) → low ≤ mid → RiseIn mid high places → RiseIn low high places
rise_lower low mid high [] less rise = omega (arith, less, rise)
rise_lower low mid high (place ∷ places) less rise = (omega (arith, less, rise.0), rise.1)

pub rise_then : (low mid high : ℕ) (places more : List ℕ) → RiseIn low mid places → RiseIn mid high more → RiseIn low high (places ++ more)
rise_then low mid high [] more rise behind = rise_lower low mid high more rise behind
rise_then low mid high (place ∷ places) more rise behind = (rise.0, rise_then (suc place) mid high places more rise.1 behind)

pub rise_from_none : (low high : ℕ) (places : List ℕ) → RiseIn low high places → RiseIn 0 high places
rise_from_none low high places rise = rise_lower 0 low high places (omega arith) rise

pub rise_higher : (low high more : ℕ) (places : List ℕ) → high ≤ more → RiseIn low high places → RiseIn low more places
rise_higher low high more [] less rise = omega (arith, less, rise)
rise_higher low high more (place ∷ places) less rise = (rise.0, rise_higher (suc place) high more places less rise.1)

-- ---- what a pass knows

pub called_none : (k : CallerKnows) → HasCalled k k []
called_none k = record { between = []; knows = ap (saw k) (sym (append-nil k.seen)); gained = sym (append-nil (numbers k)) }

pub called_then : (k now after : CallerKnows) (places more : List ℕ) → HasCalled k now places → HasCalled now after more → HasCalled k after (places ++ more)
called_then k now after places more one two =
    let seen : now.seen ≡ k.seen ++ one.between = ap (λ (z : CallerKnows). z.seen) one.knows in
    record {
      between = one.between ++ two.between;
      knows = two.knows
          ∙ (ap (λ (z : CallerKnows). saw z (now.seen ++ two.between)) one.knows
          ∙ ap (saw k) (ap (λ (es : List Entry). es ++ two.between) seen ∙ append_assoc k.seen one.between two.between));
      gained = two.gained ∙ (ap (λ (ps : List ℕ). ps ++ more) one.gained ∙ append_assoc (numbers k) places more);
    }

pub called_number : (k after : CallerKnows) (places : List ℕ) → HasCalled k after places → after.number ≡ k.number
called_number k after places called = ap (λ (z : CallerKnows). z.number) called.knows

pub called_setting : (k after : CallerKnows) (places : List ℕ) → HasCalled k after places → after.setting ≡ k.setting
called_setting k after places called = ap (λ (z : CallerKnows). z.setting) called.knows

pub called_seen : (k after : CallerKnows) (places : List ℕ) (called : HasCalled k after places) → after.seen ≡ k.seen ++ called.between
called_seen k after places called = ap (λ (z : CallerKnows). z.seen) called.knows

pub called_before : (k after : CallerKnows) (places : List ℕ) → HasCalled k after places → made_before after ≡ made_before k
called_before k after places called = ap made_before called.knows

pub called_longer : (k after : CallerKnows) (places : List ℕ) → HasCalled k after places → count_seen k ≤ count_seen after
called_longer k after places called =
    let e = ap length (called_seen k after places called) in omega (arith, e, length-append k.seen called.between, called_before k after places called)

-- one call
pub one_called : (k after : CallerKnows) (reading : ℕ) (call : Call) (told : Told) → after ≡ saw k after.seen → Called k after reading call told → HasCalled k after (told.place ∷ [])
one_called k after reading call told knows made = record {
  between = made.between ++ entry_of k.number call told ∷ [];
  knows = knows ∙ ap (saw k) (made.entered.joined ∙ append_assoc k.seen made.between (entry_of k.number call told ∷ []));
  gained = made.gained;
}

pub one_stands : (k after : CallerKnows) (reading : ℕ) (call : Call) (told : Told) → after ≡ saw k after.seen → Called k after reading call told
    → StandsAt (made_before after) after.seen told.place (entry_of k.number call told)
one_stands k after reading call told knows made = record {
  before = k.seen ++ made.between;
  behind = [];
  is = made.entered.joined;
  place_is = ap (λ (from : ℕ). from + length (k.seen ++ made.between)) (ap made_before knows ∙ before_is k made.beginning made.begins) ∙ sym made.place;
}

pub one_rises : (k after : CallerKnows) (reading : ℕ) (call : Call) (told : Told) → after ≡ saw k after.seen → Called k after reading call told
    → RiseIn (count_seen k) (count_seen after) (told.place ∷ [])
one_rises k after reading call told knows made =
    let longer = length-append k.seen made.between in
    let whole = length-append (k.seen ++ made.between) (entry_of k.number call told ∷ []) in
    let joined = ap length made.entered.joined in
    let from = before_is k made.beginning made.begins in
    let same : made_before after ≡ made_before k = ap made_before knows in
    let place = made.place in
    (omega (arith, longer, place, from), omega (arith, whole, joined, place, from, same))

-- none
pub none_called : (k after : CallerKnows) (reading : ℕ) (call : Call) (error : StepError) → after ≡ saw k after.seen → Declined k after reading call error → HasCalled k after []
none_called k after reading call error knows made = record {
  between = made.grown.0;
  knows = knows ∙ ap (saw k) made.grown.1;
  gained = made.same ∙ sym (append-nil (numbers k));
}
