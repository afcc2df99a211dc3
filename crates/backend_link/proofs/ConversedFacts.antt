-- What the parts of a conversation tell of all that went over the link.
use Rattle.std.proofs.Common.{◌≡◌, inl, inr, ℕ, ◌+◌, ◌<◌, List, [], ◌++◌, length, take, Option, Result, Ok, Err, OnOk, OnErr, is_ok, true, false, refl, sym, ap, subst, arith}
use Rattle.std.proofs.lemmas.List.{append-nil, length-append}
use Rattle.std.proofs.Math.Seq.{take-append-add}
use Rattle.http_heads.specs.declared.exchange.BackendRequest.{BackendRequest}
use Rattle.http_heads.specs.declared.exchange.Exchange.{Exchange}
use Rattle.http_heads.specs.declared.exchange.Exchange.TheVariants.{Reply, Fault, NoMemory}
use Rattle.http_heads.specs.declared.message.ResponseHead.{ResponseHead}
use Rattle.message_reader.specs.Inputs.{Hears}
use Rattle.message_reader.specs.declared.stop.Stop.{Stop}
use Rattle.message_reader.specs.declared.stop.Stop.TheVariants as stops
use Rattle.wire.specs.Flow.{Flow, Moves, MovesPart}
use Rattle.wire.proofs.Flowing.{Moves-none, Moves-trans}
use Rattle.backend_link.specs.Exchanges.{sent_text, answer_of, exchange_of, HasReply, Answers, Conversed}

-- the second part was cut short
pub part_behind : (first second third : Option Flow) (head body : List ℕ) → Moves first second [] head → MovesPart second third body → MovesPart first third (head ++ body)
part_behind first second third head body whole part = (
  length head + part.0,
  omega (arith, part.1, length-append head body),
  subst (λ (t : List ℕ). Moves first third [] t) (sym (take-append-add head body part.0)) (Moves-trans first second third [] [] head (take part.0 body) whole part.2),
)

pub quiet : (request : BackendRequest) (flow : Option Flow) → Conversed request flow flow NoMemory
quiet request flow = record { read = []; written = []; moves = Moves-none flow; answers = tt }

pub cut_short : (request : BackendRequest) (before after : Option Flow) (text : List ℕ) → text ≡ sent_text request → MovesPart before after text → Conversed request before after (Fault 2)
cut_short request before after text is part = record {
  read = [];
  written = take part.0 text;
  moves = part.2;
  answers = inl (record { is = refl; count = part.0; less = subst (λ (t : List ℕ). part.0 < length t) is part.1; front = ap (λ (t : List ℕ). take part.0 t) is });
}

pub replied : (request : BackendRequest) (first second third : Option Flow) (text body : List ℕ) (head : ResponseHead) → text ≡ sent_text request → Moves first second [] text
    → Hears second third [] (HasReply request third (Ok (head, body))) → Conversed request first third (Reply head body)
replied request first second third text body head is sent heard = record {
  read = heard.0;
  written = text;
  moves = subst (λ (t : List ℕ). Moves first third heard.0 t) (append-nil text) (Moves-trans first second third [] heard.0 text [] sent heard.1);
  answers = (is, heard.2);
}

told_of : (request : BackendRequest) (flow : Option Flow) (stop : Stop) (written read : List ℕ) → written ≡ sent_text request → HasReply request flow (Err stop) read
    → Answers request flow (answer_of stop) written read
told_of request flow stops.Read written read is told = inr (record { whole = is; stop = stops.Read; is = refl; told = told })
told_of request flow stops.Early written read is told = inr (record { whole = is; stop = stops.Early; is = refl; told = told })
told_of request flow stops.BadHead written read is told = inr (record { whole = is; stop = stops.BadHead; is = refl; told = told })
told_of request flow stops.BadBody written read is told = inr (record { whole = is; stop = stops.BadBody; is = refl; told = told })
told_of request flow stops.TooLarge written read is told = inr (record { whole = is; stop = stops.TooLarge; is = refl; told = told })
told_of request flow stops.NoMemory written read is told = tt

pub unread : (request : BackendRequest) (first second third : Option Flow) (text : List ℕ) (stop : Stop) (answer : Exchange) → answer ≡ answer_of stop → text ≡ sent_text request
    → Moves first second [] text → Hears second third [] (HasReply request third (Err stop)) → Conversed request first third answer
unread request first second third text stop answer of_stop is sent heard =
    let whole : Conversed request first third (answer_of stop) = record {
      read = heard.0;
      written = text;
      moves = subst (λ (t : List ℕ). Moves first third heard.0 t) (append-nil text) (Moves-trans first second third [] heard.0 text [] sent heard.1);
      answers = told_of request third stop text heard.0 is heard.2;
    } in
    subst (λ (a : Exchange). Conversed request first third a) (sym of_stop) whole

pub conversed : (request : BackendRequest) (first second third : Option Flow) (text : List ℕ) (outcome : Result (ResponseHead × List ℕ) Stop) (answer : Exchange)
    → answer ≡ exchange_of outcome → text ≡ sent_text request → Moves first second [] text → Hears second third [] (HasReply request third outcome)
    → Conversed request first third answer
conversed request first second third text (Ok reply) answer of_outcome is sent heard =
    subst (λ (a : Exchange). Conversed request first third a) (sym of_outcome) (replied request first second third text reply.1 reply.0 is sent heard)
conversed request first second third text (Err stop) answer of_outcome is sent heard = unread request first second third text stop answer of_outcome is sent heard

-- what a result tells where it is known whether it is Ok
pub ok_holds : {T E P : Type 0} (result : Result T E) → is_ok result ≡ true → OnOk result P → P
ok_holds (Ok x) is p = p
ok_holds (Err e) is p = absurd (cc)

pub err_holds : {T E P : Type 0} (result : Result T E) → is_ok result ≡ false → OnErr result P → P
err_holds (Ok x) is p = absurd (cc)
err_holds (Err e) is p = p

-- ---- numbers of faults

same_fault : (m n : ℕ) → Fault m ≡ Fault n → m ≡ n
same_fault m n is = cc

only_read : (stop : Stop) → answer_of stop ≡ Fault 3 → stop ≡ stops.Read
only_read stops.Read is = refl
only_read stops.Early is = absurd (omega (arith, same_fault 4 3 is))
only_read stops.BadHead is = absurd (omega (arith, same_fault 5 3 is))
only_read stops.BadBody is = absurd (omega (arith, same_fault 6 3 is))
only_read stops.TooLarge is = absurd (omega (arith, same_fault 7 3 is))
only_read stops.NoMemory is = absurd (cc)

above_two : (stop : Stop) (n : ℕ) → n < 3 → answer_of stop ≡ Fault n → ⊥
above_two stops.Read n low is = omega (arith, low, same_fault 3 n is)
above_two stops.Early n low is = omega (arith, low, same_fault 4 n is)
above_two stops.BadHead n low is = omega (arith, low, same_fault 5 n is)
above_two stops.BadBody n low is = omega (arith, low, same_fault 6 n is)
above_two stops.TooLarge n low is = omega (arith, low, same_fault 7 n is)
above_two stops.NoMemory n low is = cc

pub only_read_fails : (outcome : Result (ResponseHead × List ℕ) Stop) → exchange_of outcome ≡ Fault 3 → outcome ≡ Err stops.Read
only_read_fails (Ok reply) is = absurd (cc)
only_read_fails (Err stop) is =
    let failed : Stop → Result (ResponseHead × List ℕ) Stop = λ (s : Stop). Err s in
    ap failed (only_read stop is)

pub no_lower_fault : (outcome : Result (ResponseHead × List ℕ) Stop) (n : ℕ) → n < 3 → exchange_of outcome ≡ Fault n → ⊥
no_lower_fault (Ok reply) n low is = cc
no_lower_fault (Err stop) n low is = above_two stop n low is
