-- Options that are read, and those that aren't.
use Rattle.std.proofs.Common.{◌≡◌, inl, inr, ◌≤◌, ◌-◌, ◌+◌, ℕ, Bool, true, false, List, [], ◌∷◌, length, take, drop, get_or, Option, Some, None, Result, Ok, Err, refl, sym, ◌∙◌, ap, subst, arith}
use Rattle.std.proofs.lemmas.Grind.{common_steps}
use Rattle.command_line.specs.declared.name.OptionName.{OptionName}
use Rattle.command_line.specs.declared.name.OptionName.TheVariants.{Listen, Vcl, Workers, Conns, Cli, Room, History, Seed, Steps}
use Rattle.command_line.specs.declared.name.CommandName.{CommandName}
use Rattle.command_line.specs.declared.name.CommandName.TheVariants.{Serve, Load}
use Rattle.command_line.specs.declared.order.LoadOptions.{LoadOptions}
use Rattle.command_line.specs.declared.given.Given.{Given}
use Rattle.command_line.specs.declared.order.ServeOptions.{ServeOptions}
use Rattle.command_line.specs.declared.fault.Fault.{Fault}
use Rattle.command_line.specs.declared.fault.Fault.TheVariants.{Twice, Unknown}
use Rattle.command_line.specs.declared.fault.OrderError.{OrderError}
use Rattle.command_line.specs.declared.fault.OrderError.TheVariants.{Refused, NoMemory}
use Rattle.command_line.specs.Words.{named, takes as is_of, has, nothing, Puts, Takes, Reads, IsLoad, IsOrder, Asks, AsksLoad}
use Rattle.command_line.specs.Faults.{unless_given, option_at, IsWrong, Stops, missing_of_load, missing_of_serve, IsFault, Refuses}
use Rattle.command_line.proofs.Numbers.{one_number}

-- a list of two words at least
pub two_more : (xs : List (List ℕ)) (x y : List ℕ) → 2 ≤ length xs → x ≡ get_or xs 0 x → y ≡ get_or xs 1 y → xs ≡ x ∷ y ∷ take (length xs - 2) (drop 2 xs)
two_more [] x y least one two = absurd (omega (arith, least))
two_more (a ∷ []) x y least one two = absurd (omega (arith, least))
two_more (a ∷ b ∷ more) x y least one two =
    let count : length (a ∷ b ∷ more) - 2 ≡ length more = omega arith in
    let rest : take (length (a ∷ b ∷ more) - 2) more ≡ more = rw count (grind (arith, common_steps)) in
    let heads : a ∷ b ∷ more ≡ x ∷ y ∷ more = cc in
    heads ∙ ap (λ (m : List (List ℕ)). x ∷ y ∷ m) (sym rest)

-- ---- one option

tested : (command : CommandName) (given : Given) (place : ℕ) (x option : OptionName) (b : Bool) → is_of command x ≡ true → has given x ≡ b → unless_given command given place (Some x) ≡ Ok option → (Some x ≡ Some option) × (is_of command option ≡ true) × (has given option ≡ false)
tested command given place x option true of is e = let f : unless_given command given place (Some x) ≡ Err (Twice place) = rw of (rw is refl) in absurd (cc)
tested command given place x option false of is e =
    let f : unless_given command given place (Some x) ≡ Ok x = rw of (rw is refl) in
    let same : x ≡ option = cc in
    (ap Some same, ap (is_of command) (sym same) ∙ of, ap (has given) (sym same) ∙ is)

may_be_of : (command : CommandName) (given : Given) (place : ℕ) (x option : OptionName) (b : Bool) → is_of command x ≡ b → unless_given command given place (Some x) ≡ Ok option → (Some x ≡ Some option) × (is_of command option ≡ true) × (has given option ≡ false)
may_be_of command given place x option true of e = tested command given place x option (has given x) of refl e
may_be_of command given place x option false of e = let f : unless_given command given place (Some x) ≡ Err (Unknown place) = rw of refl in absurd (cc)

pub may_be : (command : CommandName) (given : Given) (place : ℕ) (found : Option OptionName) (option : OptionName) → unless_given command given place found ≡ Ok option → (found ≡ Some option) × (is_of command option ≡ true) × (has given option ≡ false)
may_be command given place None option e = absurd (cc)
may_be command given place (Some x) option e = may_be_of command given place x option (is_of command x) refl e

stands : (command : CommandName) (given : Given) (place : ℕ) (word : List ℕ) (option : OptionName) → named word ≡ Some option → is_of command option ≡ true → has given option ≡ false → option_at command given place word ≡ Ok option
stands command given place word option names of first = rw names (rw of (rw first refl))

pub takes : (command : CommandName) (given after : Given) (place : ℕ) (word value : List ℕ) (option : OptionName) → option_at command given place word ≡ Ok option → Puts given option value after → Takes command given word value after
takes command given after place word value option e puts =
    let found = may_be command given place (named word) option e in record { option = option; names = found.0; of_command = found.1; first = found.2; puts = puts }

puts_one : (given : Given) (option : OptionName) (value : List ℕ) (a b : Given) → Puts given option value a → Puts given option value b → a ≡ b
puts_one given Listen value a b x y = x.2 ∙ (ap (λ (n : ℕ). record given { listen = Some n }) (one_number _ _ value x.0 y.0 x.1 y.1) ∙ sym y.2)
puts_one given Vcl value a b x y = x.1 ∙ sym y.1
puts_one given Workers value a b x y = x.2 ∙ (ap (λ (n : ℕ). record given { workers = Some n }) (one_number _ _ value x.0 y.0 x.1 y.1) ∙ sym y.2)
puts_one given Conns value a b x y = x.2 ∙ (ap (λ (n : ℕ). record given { conns = Some n }) (one_number _ _ value x.0 y.0 x.1 y.1) ∙ sym y.2)
puts_one given Cli value a b x y = x.2 ∙ (ap (λ (n : ℕ). record given { cli = Some n }) (one_number _ _ value x.0 y.0 x.1 y.1) ∙ sym y.2)
puts_one given Room value a b x y = x.2 ∙ (ap (λ (n : ℕ). record given { room = Some n }) (one_number _ _ value x.0 y.0 x.1 y.1) ∙ sym y.2)
puts_one given History value a b x y = x.2 ∙ (ap (λ (n : ℕ). record given { history = Some n }) (one_number _ _ value x.0 y.0 x.1 y.1) ∙ sym y.2)
puts_one given Seed value a b x y = x.2 ∙ (ap (λ (n : ℕ). record given { seed = Some n }) (one_number _ _ value x.0 y.0 x.1 y.1) ∙ sym y.2)
puts_one given Steps value a b x y = x.2 ∙ (ap (λ (n : ℕ). record given { steps = Some n }) (one_number _ _ value x.0 y.0 x.1 y.1) ∙ sym y.2)

takes_one : (command : CommandName) (given : Given) (word value : List ℕ) (a b : Given) → Takes command given word value a → Takes command given word value b → a ≡ b
takes_one command given word value a b x y =
    let both = sym x.names ∙ y.names in
    let same : y.option ≡ x.option = cc in
    puts_one given x.option value a b x.puts (subst (λ (o : OptionName). Puts given o value b) same y.puts)

-- ---- all of them

pub reads_on : (command : CommandName) (given mid after : Given) (options : List (List ℕ)) (word value : List ℕ) (more : List (List ℕ)) → options ≡ word ∷ value ∷ more → Takes command given word value mid → Reads command mid more after → Reads command given options after
reads_on command given mid after options word value more is takes reads = subst (λ (o : List (List ℕ)). Reads command given o after) (sym is) (mid, takes, reads)

pub stops_on : (command : CommandName) (given mid : Given) (place : ℕ) (options : List (List ℕ)) (word value : List ℕ) (more : List (List ℕ)) → options ≡ word ∷ value ∷ more → Takes command given word value mid
    → (e : OrderError) → Refuses (Stops command mid (place + 2) more) e → Refuses (Stops command given place options) e
stops_on command given mid place options word value more is takes (Refused fault) stops = subst (λ (o : List (List ℕ)). Stops command given place o fault) (sym is) (inr (mid, takes, stops))
stops_on command given mid place options word value more is takes NoMemory stops = tt

reads_one : (command : CommandName) (given : Given) (options : List (List ℕ)) (a b : Given) → Reads command given options a → Reads command given options b → a ≡ b
reads_one command given [] a b x y = x ∙ sym y
reads_one command given (word ∷ []) a b x y = absurd x
reads_one command given (word ∷ value ∷ more) a b x y =
    let same : y.0 ≡ x.0 = takes_one command given word value y.0 x.0 y.1 x.1 in
    reads_one command x.0 more a b x.2 (subst (λ (m : Given). Reads command m more b) same y.2)

-- options that are read have no fault
unstopped : (command : CommandName) (given : Given) (place : ℕ) (options : List (List ℕ)) (fault : Fault) (after : Given) → Stops command given place options fault → Reads command given options after → ⊥
unstopped command given place [] fault after stops reads = absurd stops
unstopped command given place (word ∷ []) fault after stops reads = absurd reads
unstopped command given place (word ∷ value ∷ more) fault after (inl wrong) reads =
    let taken = reads.1 in
    (subst (λ (r : Result OptionName Fault). IsWrong given place value r fault) (stands command given place word taken.option taken.names taken.of_command taken.first) wrong).1 reads.0 taken.puts
unstopped command given place (word ∷ value ∷ more) fault after (inr stops) reads =
    let same : stops.0 ≡ reads.0 = takes_one command given word value stops.0 reads.0 stops.1 reads.1 in
    unstopped command reads.0 (place + 2) more fault after (subst (λ (m : Given). Stops command m (place + 2) more fault) same stops.2) reads.2

-- ---- what is asked for

pub unmissed : (given : Given) (order : ServeOptions) → IsOrder given order → missing_of_serve given ≡ None
unmissed given order is = rw is.port (rw is.file (rw is.workers refl))

pub unmissed_load : (given : Given) (load : LoadOptions) → IsLoad given load → missing_of_load given ≡ None
unmissed_load given load is = rw is.seed (rw is.steps refl)

-- options with a fault ask for nothing
module _ {O : Type 0} (command : CommandName) (missing : Given → Option OptionName) (Is : Given → O → Type 0) (unmissed : (given : Given) (order : O) → Is given order → missing given ≡ None) where
  pub outside : (options : List (List ℕ)) (fault : Fault) → IsFault command missing options fault → (order : O) → (given : Given) × Reads command nothing options given × Is given order → ⊥
  outside options fault (inl stops) order asks = unstopped command nothing 0 options fault asks.0 stops asks.1
  outside options fault (inr x) order asks =
      let same : asks.0 ≡ x.0 = reads_one command nothing options asks.0 x.0 asks.1 x.1 in
      let none : missing x.0 ≡ None = unmissed x.0 order (subst (λ (g : Given). Is g order) same asks.2) in
      let some = x.2.first in absurd (cc)

  pub all_outside : (options : List (List ℕ)) (e : OrderError) → Refuses (IsFault command missing options) e → Refuses (λ _. (order : O) → (given : Given) × Reads command nothing options given × Is given order → ⊥) e
  all_outside options (Refused fault) is = outside options fault is
  all_outside options NoMemory is = tt

pub first_fault : (command : CommandName) (missing : Given → Option OptionName) (options : List (List ℕ)) (e : OrderError) → Refuses (Stops command nothing 0 options) e → Refuses (IsFault command missing options) e
first_fault command missing options (Refused fault) stops = inl stops
first_fault command missing options NoMemory stops = tt
