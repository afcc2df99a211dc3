-- What a run does, from what its command comes to.
use Rattle.std.proofs.Common.{◌≡◌, ℕ, Bool, true, false, List, Option, Some, None, sym, subst, inl, inr}
use Rattle.command_line.specs.declared.fault.OrderError.{OrderError}
use Rattle.command_line.specs.declared.fault.OrderError.TheVariants.{Refused, NoMemory}
use Rattle.command_line.specs.declared.name.CommandName.{CommandName}
use Rattle.command_line.specs.declared.name.CommandName.TheVariants as command
use Rattle.command_line.specs.declared.order.LoadOptions.{LoadOptions}
use Rattle.command_line.specs.declared.order.ServeOptions.{ServeOptions}
use Rattle.command_line.specs.Faults.{IsFault, Refuses, missing_of_load, missing_of_serve}
use Rattle.command_line.specs.Words.{Asks, AsksLoad}
use Rattle.server.specs.declared.tally.Tally.{Tally}
use Rattle.varn_audit.specs.declared.outcome.Audited.{Audited}
use Rattle.varn_program.specs.declared.outcome.Outcome.{Outcome as Played}
use Rattle.varn_serve.specs.declared.ending.Served.{Served}
use Rattle.varn_command.specs.declared.outcome.Outcome.{Outcome}
use Rattle.varn_command.specs.Asking.{Claims, Does, DoesAs, DoesFor, IsUnasked, asks_audit, command_of}
use Rattle.varn_command.specs.Outcomes.{of_audited, of_played, of_served, of_unasked}

-- what words of this command come to is what is done
does_as : (claims : Claims) (words : List (List ℕ)) (asked : Option (CommandName × List (List ℕ))) (outcome : Outcome) → asks_audit words ≡ false → command_of words ≡ asked → DoesAs claims asked outcome → Does claims words outcome
does_as claims words asked outcome other is does =
    record { does = subst (λ (b : Bool). DoesFor b claims words outcome) (sym other) (subst (λ (o : Option (CommandName × List (List ℕ))). DoesAs claims o outcome) (sym is) does) }

pub audits : (claims : Claims) (words : List (List ℕ)) (outcome : Outcome) (came : Audited) → asks_audit words ≡ true → claims.audits came → outcome ≡ of_audited came → Does claims words outcome
audits claims words outcome came is claim handed = record { does = subst (λ (b : Bool). DoesFor b claims words outcome) (sym is) (came, claim, handed) }

module _ (claims : Claims) (words options : List (List ℕ)) (outcome : Outcome) (other : asks_audit words ≡ false) where
  pub serves : (order : ServeOptions) (came : Served Tally) → command_of words ≡ Some (command.Serve, options) → Asks options order → claims.serves order came → outcome ≡ of_served came → Does claims words outcome
  serves order came is asks claim handed = does_as claims words (Some (command.Serve, options)) outcome other is (inl (order, came, asks, claim, handed))

  pub loads : (load : LoadOptions) (came : Played) → command_of words ≡ Some (command.Load, options) → AsksLoad options load → claims.loads load came → outcome ≡ of_played came → Does claims words outcome
  loads load came is asks claim handed = does_as claims words (Some (command.Load, options)) outcome other is (inl (load, came, asks, claim, handed))

  pub refuses_serve : (error : OrderError) → command_of words ≡ Some (command.Serve, options) → IsUnasked command.Serve options error → claims.nothing → outcome ≡ of_unasked error → Does claims words outcome
  refuses_serve error is fault nothing handed = does_as claims words (Some (command.Serve, options)) outcome other is (inr (error, fault, nothing, handed))

  pub refuses_load : (error : OrderError) → command_of words ≡ Some (command.Load, options) → IsUnasked command.Load options error → claims.nothing → outcome ≡ of_unasked error → Does claims words outcome
  refuses_load error is fault nothing handed = does_as claims words (Some (command.Load, options)) outcome other is (inr (error, fault, nothing, handed))

pub replays : (claims : Claims) (words : List (List ℕ)) (outcome : Outcome) (came : Played) → asks_audit words ≡ false → command_of words ≡ None → claims.replays came → outcome ≡ of_played came → Does claims words outcome
replays claims words outcome came other is claim handed = does_as claims words None outcome other is (came, claim, handed)

-- ---- words that give no order

pub unasked_serve : (options : List (List ℕ)) (error : OrderError) → Refuses (IsFault command.Serve missing_of_serve options) error → Refuses (λ fault. (order : ServeOptions) → Asks options order → ⊥) error → IsUnasked command.Serve options error
unasked_serve options (Refused fault) is outside = (is, outside)
unasked_serve options NoMemory is outside = tt

pub unasked_load : (options : List (List ℕ)) (error : OrderError) → Refuses (IsFault command.Load missing_of_load options) error → Refuses (λ fault. (load : LoadOptions) → AsksLoad options load → ⊥) error → IsUnasked command.Load options error
unasked_load options (Refused fault) is outside = (is, outside)
unasked_load options NoMemory is outside = tt

-- ---- of less that is claimed

pub record IsWeaker (claims weaker : Claims) : Type 0 where
  pub replays : (came : Played) → claims.replays came → weaker.replays came
  pub loads : (load : LoadOptions) (came : Played) → claims.loads load came → weaker.loads load came
  pub serves : (order : ServeOptions) (came : Served Tally) → claims.serves order came → weaker.serves order came
  pub audits : (came : Audited) → claims.audits came → weaker.audits came
  pub nothing : claims.nothing → weaker.nothing

does_less : (claims weaker : Claims) (asked : Option (CommandName × List (List ℕ))) (outcome : Outcome) → IsWeaker claims weaker → DoesAs claims asked outcome → DoesAs weaker asked outcome
does_less claims weaker None outcome less does = (does.0, less.replays does.0 does.1, does.2)
does_less claims weaker (Some (command.Load, options)) outcome less (inl does) = inl (does.0, does.1, does.2, less.loads does.0 does.1 does.3, does.4)
does_less claims weaker (Some (command.Load, options)) outcome less (inr refused) = inr (refused.0, refused.1, less.nothing refused.2, refused.3)
does_less claims weaker (Some (command.Serve, options)) outcome less (inl does) = inl (does.0, does.1, does.2, less.serves does.0 does.1 does.3, does.4)
does_less claims weaker (Some (command.Serve, options)) outcome less (inr refused) = inr (refused.0, refused.1, less.nothing refused.2, refused.3)

does_for : (claims weaker : Claims) (words : List (List ℕ)) (audit : Bool) (outcome : Outcome) → IsWeaker claims weaker → DoesFor audit claims words outcome → DoesFor audit weaker words outcome
does_for claims weaker words true outcome less does = (does.0, less.audits does.0 does.1, does.2)
does_for claims weaker words false outcome less does = does_less claims weaker (command_of words) outcome less does

pub less_claimed : (claims weaker : Claims) (words : List (List ℕ)) (outcome : Outcome) → IsWeaker claims weaker → Does claims words outcome → Does weaker words outcome
less_claimed claims weaker words outcome less does = record { does = does_for claims weaker words (asks_audit words) outcome less does.does }
