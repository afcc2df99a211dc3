-- A line orders one thing, or is wrong for one reason.
use Rattle.std.proofs.Common.{◌≡◌, ◌≢◌, ℕ, List, [], ◌∷◌, ap, sym, ◌∙◌, subst, inl, inr}
use Rattle.std.specs.Prelude.{Option, Some, None, IsSomeAnd, Result, Ok, Err, MatchResult}
use Rattle.std.proofs.lemmas.Option.{none-some}
use Rattle.ban_expr.specs.declared.error.BanError.{BanError}
use Rattle.ban_expr.specs.declared.error.BanError.TheVariants as error
use Rattle.ban_expr.proofs.Ones.{one_reading, refusal_reads, one_refusal}
use Rattle.cli_words.proofs.Reading.{words_same}
use Rattle.cache_law.specs.declared.ban.Ban.{Ban}
use Rattle.cache_law.specs.declared.ban.Condition.{Condition}
use Rattle.cache_law.specs.declared.call.Call.TheVariants as call
use Rattle.cache_law.specs.declared.vcl.Health.{Health}
use Rattle.cli_console.specs.declared.commands.CommandKind.{CommandKind}
use Rattle.cli_console.specs.declared.commands.CommandKind.TheVariants as command
use Rattle.cli_console.specs.declared.message.Message.{Message}
use Rattle.cli_console.specs.declared.message.Message.TheVariants as message
use Rattle.cli_console.specs.declared.orders.Order.{Order}
use Rattle.cli_console.specs.declared.orders.Order.TheVariants as order
use Rattle.cli_console.specs.Orders.{Means, Refuses, IsBanRefused, ban_number, health_named, kind_of, IsOrder, IsWrongOrder, IsOrderOf, IsWrongLine}

same_ban : (a b : Ban) → a.words ≡ b.words → a.conditions ≡ b.conditions → a ≡ b
same_ban a b p q =
    let worded : List (List ℕ) → Ban = λ words. record { words = words; conditions = a.conditions } in
    let said : List Condition → Ban = λ conditions. record { words = b.words; conditions = conditions } in
    ap worded p ∙ ap said q

one_health : (backend : List ℕ) (found : Option Health) (o p : Order) → IsSomeAnd found (λ given. o ≡ order.Cache (call.SetHealth backend given)) → IsSomeAnd found (λ given. p ≡ order.Cache (call.SetHealth backend given)) → o ≡ p
one_health backend None o p h k = absurd h
one_health backend (Some given) o p h k = h ∙ sym k

one_means : (kind : CommandKind) (arguments : List (List ℕ)) (o p : Order) → Means kind arguments o → Means kind arguments p → o ≡ p
one_means command.Ping arguments o p h k = h ∙ sym k
one_means command.VclInline (name ∷ text ∷ []) o p h k = h ∙ sym k
one_means command.VclLoad (name ∷ file ∷ []) o p h k = h ∙ sym k
one_means command.VclUse (name ∷ []) o p h k = h ∙ sym k
one_means command.VclDiscard (name ∷ []) o p h k = h ∙ sym k
one_means command.VclList arguments o p h k = h ∙ sym k
one_means command.Ban arguments o p h k =
    let same = same_ban h.0 k.0 (h.1 ∙ sym k.1) (one_reading arguments h.0.conditions k.0.conditions h.2 k.2) in
    h.3 ∙ (ap (λ ban. order.Cache (call.Ban ban)) same ∙ sym k.3)
one_means command.BanList arguments o p h k = h ∙ sym k
one_means command.SetHealth (backend ∷ state ∷ []) o p h k = one_health backend (health_named state) o p h k
one_means command.Quit arguments o p h k = h ∙ sym k
one_means _ _ o p h k = absurd h

-- a refusal has a number, and want of memory none
numbered : (e : BanError) (m : Message) → IsBanRefused e m → e ≢ error.NoMemory
numbered e m h = λ wanting. none-some h.0 (ap ban_number (sym wanting) ∙ h.1)

one_number : (e f : BanError) (m n : Message) → e ≡ f → IsBanRefused e m → IsBanRefused f n → m ≡ n
one_number e f m n same h k =
    let numbers : Some h.0 ≡ Some k.0 = sym h.1 ∙ (ap ban_number same ∙ k.1) in
    let number : h.0 ≡ k.0 = cc in
    h.2 ∙ (ap message.BanRefused number ∙ sym k.2)

one_refuses : (kind : CommandKind) (arguments : List (List ℕ)) (m n : Message) → Refuses kind arguments m → Refuses kind arguments n → m ≡ n
one_refuses command.Ban arguments m n h k =
    one_number h.0 k.0 m n (one_refusal arguments h.0 k.0 h.1 k.1 (numbered h.0 m h.2) (numbered k.0 n k.2)) h.2 k.2
one_refuses command.SetHealth (backend ∷ state ∷ []) m n h k = h.1 ∙ sym k.1
one_refuses _ _ m n h k = absurd h

health_either : (backend : List ℕ) (found : Option Health) (o : Order) → IsSomeAnd found (λ given. o ≡ order.Cache (call.SetHealth backend given)) → found ≡ None → ⊥
health_either backend None o h k = h
health_either backend (Some given) o h k = none-some given (sym k)

means_or_refuses : (kind : CommandKind) (arguments : List (List ℕ)) (o : Order) (m : Message) → Means kind arguments o → Refuses kind arguments m → ⊥
means_or_refuses command.Ban arguments o m h k = numbered k.0 m k.2 (refusal_reads arguments k.0 h.0.conditions k.1 h.2)
means_or_refuses command.SetHealth (backend ∷ state ∷ []) o m h k = health_either backend (health_named state) o h k.0
means_or_refuses _ _ o m h k = k

found_one : (found : Result CommandKind Message) (arguments : List (List ℕ)) (o p : Order) → MatchResult found (λ kind. Means kind arguments o) (λ m. ⊥) → MatchResult found (λ kind. Means kind arguments p) (λ m. ⊥) → o ≡ p
found_one (Ok kind) arguments o p h k = one_means kind arguments o p h k
found_one (Err m) arguments o p h k = absurd h

found_reason : (found : Result CommandKind Message) (arguments : List (List ℕ)) (m n : Message) → MatchResult found (λ kind. Refuses kind arguments m) (λ early. m ≡ early) → MatchResult found (λ kind. Refuses kind arguments n) (λ early. n ≡ early) → m ≡ n
found_reason (Ok kind) arguments m n h k = one_refuses kind arguments m n h k
found_reason (Err early) arguments m n h k = h ∙ sym k

found_either : (found : Result CommandKind Message) (arguments : List (List ℕ)) (o : Order) (m : Message) → MatchResult found (λ kind. Means kind arguments o) (λ early. ⊥) → MatchResult found (λ kind. Refuses kind arguments m) (λ early. m ≡ early) → ⊥
found_either (Ok kind) arguments o m h k = means_or_refuses kind arguments o m h k
found_either (Err early) arguments o m h k = h

words_one : (words : List (List ℕ)) (o p : Order) → IsOrder words o → IsOrder words p → o ≡ p
words_one [] o p h k = absurd h
words_one (name ∷ arguments) o p h k = found_one (kind_of name arguments) arguments o p h k

words_reason : (words : List (List ℕ)) (m n : Message) → IsWrongOrder words m → IsWrongOrder words n → m ≡ n
words_reason [] m n h k = h ∙ sym k
words_reason (name ∷ arguments) m n h k = found_reason (kind_of name arguments) arguments m n h k

words_either : (words : List (List ℕ)) (o : Order) (m : Message) → IsOrder words o → IsWrongOrder words m → ⊥
words_either [] o m h k = h
words_either (name ∷ arguments) o m h k = found_either (kind_of name arguments) arguments o m h k

pub line_one : (line : List ℕ) (o p : Order) → IsOrderOf line o → IsOrderOf line p → o ≡ p
line_one line o p h k =
    let At : List (List ℕ) → Type 0 = λ words. IsOrder words p in
    words_one h.0 o p h.2 (subst At (words_same k.0 h.0 line k.1.1 h.1.1) k.2)

pub line_reason : (line : List ℕ) (m n : Message) → IsWrongLine line m → IsWrongLine line n → m ≡ n
line_reason line m n (inl h) (inl k) = h.1 ∙ sym k.1
line_reason line m n (inl h) (inr k) = absurd (h.0 k.0 k.1)
line_reason line m n (inr h) (inl k) = absurd (k.0 h.0 h.1)
line_reason line m n (inr h) (inr k) =
    let At : List (List ℕ) → Type 0 = λ words. IsWrongOrder words n in
    words_reason h.0 m n h.2 (subst At (words_same k.0 h.0 line k.1.1 h.1.1) k.2)

pub line_either : (line : List ℕ) (o : Order) (m : Message) → IsOrderOf line o → IsWrongLine line m → ⊥
line_either line o m h (inl k) = k.0 h.0 h.1
line_either line o m h (inr k) =
    let At : List (List ℕ) → Type 0 = λ words. IsWrongOrder words m in
    words_either h.0 o m h.2 (subst At (words_same k.0 h.0 line k.1.1 h.1.1) k.2)
