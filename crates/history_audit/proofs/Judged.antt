-- What becomes of an entry that fits, by what the cache told.
use Rattle.std.proofs.Common.{◌≡◌, ◌≢◌, ℕ, Bool, true, false, ◌<◌, ◌≤◌, ◌+◌, ◌^◌, ◌++◌, length, refl, sym, ap, ◌∙◌, subst}
use Rattle.std.specs.Prelude.{Some, None, Ok, Err}
use Rattle.cache_law.specs.declared.call.Call.{Call}
use Rattle.cache_law.specs.declared.call.Call.TheVariants.{Drop}
use Rattle.cache_law.specs.declared.call.Reply.{Reply}
use Rattle.cache_law.specs.declared.call.Reply.TheVariants.{Dropped}
use Rattle.cache_law.specs.declared.setting.Params.{Params}
use Rattle.cache_law.specs.History.{Fits, HasWaited, bytes_of, reached}
use Rattle.cache_law.specs.State.{State}
use Rattle.cache_frame.specs.Framed.{Plain}
use Rattle.journal_text.specs.declared.line.Said.{Said}
use Rattle.journal_text.specs.declared.shown.Shown.{Shown}
use Rattle.journal_text.specs.declared.shown.Shown.TheVariants as shown
use Rattle.journal_text.specs.Grammar.{shown_of}
use Rattle.audit_laws.specs.declared.kind.Kind.TheVariants as kinds
use Rattle.audit_laws.specs.Faults.{judged_entry}
use Rattle.journal_audit.specs.declared.fault.Expected.TheVariants as expected
use Rattle.journal_audit.specs.declared.fault.Fault.{Fault}
use Rattle.history_audit.specs.declared.following.Following.{Following}
use Rattle.history_audit.specs.Alongside.{Answers, Compares, HasAdvanced, HasJoined, Stands, issued_of}
use Rattle.history_audit.specs.Listing.{ListsIf}
use Rattle.history_audit.specs.Saying.{asks_bans, refused_token}
use Rattle.history_audit.proofs.Entering.{spends_with}
use Rattle.history_audit.proofs.Replies.{asked_is, compared, insertion_of, listed, may_show, not_listed, not_open, not_refused, other_shown, otherwise, refused_so, waited_for}

module _ (following : Following) (said : Said) where
  -- what the entries take with this one, as it was counted
  abbrev Counted : ℕ → Type 0
  Counted spends = following.used + bytes_of said.call < 2 ^ 64 → spends ≡ following.used + bytes_of said.call

  spends_so : (params : Params) (state : State) (used spends : ℕ) → Stands following params state used → Fits params state used (judged_entry params state said) → Counted spends → spends ≡ used + bytes_of said.call
  spends_so params state used spends along fits counted = spends_with params state used following.used said spends along.bound along.spent_is fits counted

  abbrev IsBehind : Type 0
  IsBehind = (reached following.core.beginning following.core.entries).moment ≤ said.moment

  -- ---- a list of bans

  pub list_refused : (lists : Bool) (fault : Fault) → IsBehind → asks_bans said.call ≡ true → ListsIf following.core following.bans.items said.moment said.reply lists → lists ≡ false
      → fault ≡ record { kind = kinds.Reply; expected = expected.ListOfBans } → Answers following said (Err fault)
  list_refused lists fault order asks told no_ is params state used along fits =
      let asked = asked_is said.call asks in
      let none = subst (λ (b : Bool). ListsIf following.core following.bans.items said.moment said.reply b) no_ told in
      otherwise following.core following.used following.bans.items params state used along said fault expected.ListOfBans is order
      (waited_for (reached following.core.beginning following.core.entries) said.caller said.call asked) fits
      (not_listed following.core following.used following.bans.items params state used along said asked (none state along.alike along.sound along.bans_are)) tt

  pub list_entered : (lists : Bool) (next : Following) (told : Reply) → asks_bans said.call ≡ true → ListsIf following.core following.bans.items said.moment said.reply lists → lists ≡ true
      → HasAdvanced following next said.caller said.moment said.call told → Answers following said (Ok next)
  list_entered lists next told asks may yes_ advanced params state used along fits =
      let all = subst (λ (b : Bool). ListsIf following.core following.bans.items said.moment said.reply b) yes_ may in
      let asked = asked_is said.call asks in
      let keeps : next.bans.items ≡ following.bans.items =
      advanced.noted ∙ ap (λ (c : Call). issued_of c said.moment (length following.bans.items) ++ following.bans.items) asked in
      listed following.core next.core following.used following.bans.items params state used along said.caller said.moment said.call said.reply told advanced.joins fits next asked refl
      (all state along.alike along.sound along.bans_are) keeps (spends_so params state used next.used along fits advanced.counted)

  -- ---- a refused insertion

  insertion_waits : (state : State) (call : Call) (reply : Shown) (token : ℕ) → refused_token call reply ≡ Some token → HasWaited state said.caller call
  insertion_waits state call reply token refusal = subst (λ (c : Call). HasWaited state said.caller c) (sym (insertion_of call reply token refusal).is) tt

  pub refusal_wrong : (token : ℕ) (fault : Fault) (new : Plain) (told : Reply) → IsBehind → refused_token said.call said.reply ≡ Some token → HasJoined following.core new said.caller said.moment (Drop token) told → told ≢ Dropped
      → fault ≡ record { kind = kinds.Reply; expected = expected.Reply shown.NotOpen } → Answers following said (Err fault)
  refusal_wrong token fault new told order refusal joins other is params state used along fits =
      let insertion = insertion_of said.call said.reply token refusal in
      otherwise following.core following.used following.bans.items params state used along said fault (expected.Reply shown.NotOpen) is order
      (insertion_waits (reached following.core.beginning following.core.entries) said.call said.reply token refusal) fits
      (not_refused following.core new following.used following.bans.items params state used along said.caller said.moment token told joins said.call said.reply insertion other)
      (not_open following.core new following.used following.bans.items params state used along said.caller said.moment token told joins said.call said.reply insertion other)

  pub refusal_entered : (token : ℕ) (next : Following) (new : Plain) (told : Reply) → refused_token said.call said.reply ≡ Some token → HasJoined following.core new said.caller said.moment (Drop token) told → told ≡ Dropped
      → next.core ≡ new → next.bans.items ≡ following.bans.items → Counted next.used → Answers following said (Ok next)
  refusal_entered token next new told refusal joins dropped core keeps counted params state used along fits =
      refused_so following.core new following.used following.bans.items params state used along said.caller said.moment token told joins said.call said.reply next (insertion_of said.call said.reply token refusal) fits dropped core
      keeps (spends_so params state used next.used along fits counted)

  -- ---- any other call

  pub other_told : (fault : Fault) (next : Following) (told : Reply) → IsBehind → HasWaited (reached following.core.beginning following.core.entries) said.caller said.call → asks_bans said.call ≡ false
      → refused_token said.call said.reply ≡ None → HasAdvanced following next said.caller said.moment said.call told → Compares told said.reply (Some fault) → Answers following said (Err fault)
  other_told fault next told order waited other kept advanced differs params state used along fits =
      otherwise following.core following.used following.bans.items params state used along said fault (expected.Reply (shown_of told)) differs.1 order waited fits
      (other_shown following.core next.core following.used following.bans.items params state used along said.caller said.moment said.call said.reply told advanced.joins fits other kept advanced.lawful differs.0)
      (may_show following.core next.core following.used following.bans.items params state used along said.caller said.moment said.call said.reply told advanced.joins fits)

  pub same_told : (next : Following) (told : Reply) → HasAdvanced following next said.caller said.moment said.call told → Compares told said.reply None → Answers following said (Ok next)
  same_told next told advanced same params state used along fits =
      compared following.core next.core following.used following.bans.items params state used along said.caller said.moment said.call said.reply told advanced.joins fits next refl same
      advanced.noted (spends_so params state used next.used along fits advanced.counted)
