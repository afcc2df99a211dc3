-- What a line of the console leads to is one thing, where the text of a VCL that it brings is plain.
use Rattle.std.proofs.Common.{◌≡◌, ◌⊎◌, inl, inr, ℕ, List, refl, sym, ◌∙◌, ap, subst}
use Rattle.vmod_host.specs.declared.signature.Stored.{Stored}
use Rattle.vcl_tree.specs.declared.error.Refusal.{Refusal}
use Rattle.vcl_tree.specs.declared.item.Tree.{Tree}
use Rattle.vcl_refusals.specs.Outcomes.{IsPlainText}
use Rattle.vcl_refusals.proofs.OneOutcome.{accepted-or-refused, refusal-one}
use Rattle.vcl_refusals.proofs.OneTree.{joined-one}
use Rattle.cache_law.specs.declared.call.Call.{Call}
use Rattle.cache_law.specs.declared.call.Call.TheVariants as cache_call
use Rattle.cache_law.specs.declared.vcl.VclSource.{VclSource}
use Rattle.cli_console.specs.declared.command.Command.TheVariants as command
use Rattle.cli_console.specs.declared.message.Message.{Message}
use Rattle.cli_console.specs.declared.message.Message.TheVariants as message
use Rattle.cli_console.specs.declared.orders.Order.{Order}
use Rattle.cli_console.specs.declared.orders.Order.TheVariants as order
use Rattle.cli_console.specs.declared.refusal.CliAnswer.{CliAnswer}
use Rattle.cli_console.specs.declared.refusal.CliAnswer.TheVariants.{Refused}
use Rattle.cli_console.specs.Refusals.{TellsWhy}
use Rattle.cli_console.specs.Lines.{Carries, IsTextWrong, IsWrong}
use Rattle.cli_console.specs.Messages.{answer_text, said}
use Rattle.cli_console.specs.Orders.{IsOrderOf, IsWrongLine}
use Rattle.cli_console.specs.Sources.{IsSource, IsTextRefused, backends_of}
use Rattle.cli_console.proofs.Meanings.{line_one, line_reason, line_either}
use Rattle.replay.specs.declared.console.Instruction.{Instruction}
use Rattle.replay.specs.declared.console.Instruction.TheVariants as instruction
use Rattle.replay.specs.Console.{IsAnswerTo, IsInVain, LeadsTo}
use Rattle.replay.specs.Laws.{BringsPlainText, LeadsToOne}

-- what a text of a VCL under a name leads to: it is loaded, or refused
abbrev pub TextLeadsTo : List Stored → List ℕ → List ℕ → Instruction → Type 0
TextLeadsTo stored name text i =
    ((source : VclSource) × IsSource stored name text source × (i ≡ instruction.Call (cache_call.Load source)))
    ⊎ ((m : Message) × IsTextRefused stored text m × (i ≡ instruction.Answer (answer_text (said m))))

-- what an order leads to
abbrev pub Follows : List Stored → Order → Instruction → Type 0
Follows stored order.Ping i = i ≡ instruction.Ping
Follows stored order.Quit i = i ≡ instruction.Answer (answer_text (said message.Closing))
Follows stored (order.Cache ordered) i = i ≡ instruction.Call ordered
Follows stored (order.Load name file) i = i ≡ instruction.Answer (answer_text (said (message.CannotRead file)))
Follows stored (order.Inline name text) i = TextLeadsTo stored name text i

-- the line orders this and leads to what that leads to, or is wrong and leads to its refusal
abbrev pub IsSettled : List Stored → List ℕ → Instruction → Type 0
IsSettled stored line i =
    ((o : Order) × IsOrderOf line o × Follows stored o i)
    ⊎ ((m : Message) × IsWrongLine line m × (i ≡ instruction.Answer (answer_text (said m))))

-- a text has one VCL under a name
same_source : (a b : VclSource) → b.name ≡ a.name → b.text ≡ a.text → b.backends ≡ a.backends → b ≡ a
same_source a b name text backends =
    let of : List ℕ → List ℕ → List (List ℕ) → VclSource = λ n t bs. record { name = n; text = t; backends = bs } in
    ap (λ (n : List ℕ). of n b.text b.backends) name
    ∙ (ap (λ (t : List ℕ). of a.name t b.backends) text ∙ ap (λ (bs : List (List ℕ)). of a.name a.text bs) backends)

source_one : (stored : List Stored) (name text : List ℕ) (a b : VclSource) → IsSource stored name text a → IsSource stored name text b → b ≡ a
source_one stored name text a b p q =
    let tree : q.tree ≡ p.tree = joined-one text p.tree q.tree p.joined q.joined in
    same_source a b (q.named ∙ sym p.named) (q.same_text ∙ sym p.same_text)
    (q.backends ∙ (ap (λ (t : Tree). backends_of t.items) tree ∙ sym p.backends))

-- and isn't refused where it has one; and it is refused for one thing
source_or_refused : (stored : List Stored) (name text : List ℕ) (source : VclSource) (m : Message) → IsPlainText text → IsSource stored name text source → IsTextRefused stored text m → ⊥
source_or_refused stored name text source m plain p q = accepted-or-refused text stored p.tree q.0 q.1 plain p.joined p.sound q.2

refusal_message_one : (stored : List Stored) (text : List ℕ) (m n : Message) → IsPlainText text → IsTextRefused stored text m → IsTextRefused stored text n → n ≡ m
refusal_message_one stored text m n plain p q =
    let same = refusal-one text stored p.0 q.0 p.1 q.1 plain p.2 q.2 in
    q.3
    ∙ (ap (λ (kind : Refusal). message.VclRefused kind q.1) same.0
    ∙ (ap (λ (place : ℕ). message.VclRefused p.0 place) same.1 ∙ sym p.3))

text_one : (stored : List Stored) (name text : List ℕ) (i j : Instruction) → IsPlainText text → TextLeadsTo stored name text i → TextLeadsTo stored name text j → j ≡ i
text_one stored name text i j plain (inl p) (inl q) =
    q.2 ∙ (ap (λ (s : VclSource). instruction.Call (cache_call.Load s)) (source_one stored name text p.0 q.0 p.1 q.1) ∙ sym p.2)
text_one stored name text i j plain (inl p) (inr q) = absurd (source_or_refused stored name text p.0 q.0 plain p.1 q.1)
text_one stored name text i j plain (inr p) (inl q) = absurd (source_or_refused stored name text q.0 p.0 plain q.1 p.1)
text_one stored name text i j plain (inr p) (inr q) =
    q.2 ∙ (ap (λ (m : Message). instruction.Answer (answer_text (said m))) (refusal_message_one stored text p.0 q.0 plain p.1 q.1) ∙ sym p.2)

follows_one : (stored : List Stored) (line : List ℕ) (o : Order) (i j : Instruction) → BringsPlainText line → IsOrderOf line o → Follows stored o i → Follows stored o j → j ≡ i
follows_one stored line order.Ping i j plain orders p q = q ∙ sym p
follows_one stored line order.Quit i j plain orders p q = q ∙ sym p
follows_one stored line (order.Cache ordered) i j plain orders p q = q ∙ sym p
follows_one stored line (order.Load name file) i j plain orders p q = q ∙ sym p
follows_one stored line (order.Inline name text) i j plain orders p q = text_one stored name text i j (plain name text orders) p q

settled_one : (stored : List Stored) (line : List ℕ) (i j : Instruction) → BringsPlainText line → IsSettled stored line i → IsSettled stored line j → j ≡ i
settled_one stored line i j plain (inl p) (inl q) =
    follows_one stored line p.0 i j plain p.1 p.2 (subst (λ (o : Order). Follows stored o j) (line_one line q.0 p.0 q.1 p.1) q.2)
settled_one stored line i j plain (inl p) (inr q) = absurd (line_either line p.0 q.0 p.1 q.1)
settled_one stored line i j plain (inr p) (inl q) = absurd (line_either line q.0 p.0 q.1 p.1)
settled_one stored line i j plain (inr p) (inr q) =
    q.2 ∙ (ap (λ (m : Message). instruction.Answer (answer_text (said m))) (line_reason line q.0 p.0 q.1 p.1) ∙ sym p.2)

ping : (stored : List Stored) (line : List ℕ) (o : Order) → IsOrderOf line o → Carries stored o command.Ping → IsSettled stored line instruction.Ping
ping stored line order.Ping orders carries = inl (order.Ping, orders, refl)
ping stored line order.Quit orders carries = absurd (cc)
ping stored line (order.Cache ordered) orders carries = absurd (cc)
ping stored line (order.Inline name text) orders carries = let is = carries.2 in absurd (cc)
ping stored line (order.Load name file) orders carries = absurd (cc)

quit : (stored : List Stored) (line text : List ℕ) (o : Order) → IsOrderOf line o → Carries stored o (command.Quit text) → IsSettled stored line (instruction.Answer text)
quit stored line text order.Ping orders carries = absurd (cc)
quit stored line text order.Quit orders carries = inl (order.Quit, orders, cc)
quit stored line text (order.Cache ordered) orders carries = absurd (cc)
quit stored line text (order.Inline name given) orders carries = let is = carries.2 in absurd (cc)
quit stored line text (order.Load name file) orders carries = absurd (cc)

load : (stored : List Stored) (line name file : List ℕ) (o : Order) → IsOrderOf line o → Carries stored o (command.Load name file) → IsSettled stored line (instruction.Answer (answer_text (said (message.CannotRead file))))
load stored line name file order.Ping orders carries = absurd (cc)
load stored line name file order.Quit orders carries = absurd (cc)
load stored line name file (order.Cache ordered) orders carries = absurd (cc)
load stored line name file (order.Inline other given) orders carries = let is = carries.2 in absurd (cc)
load stored line name file (order.Load other found) orders carries = let same : file ≡ found = cc in inl (order.Load other found, orders, ap (λ (f : List ℕ). instruction.Answer (answer_text (said (message.CannotRead f)))) same)

call : (stored : List Stored) (line : List ℕ) (o : Order) (ordered : Call) → IsOrderOf line o → Carries stored o (command.Cache ordered) → IsSettled stored line (instruction.Call ordered)
call stored line order.Ping ordered orders carries = absurd (cc)
call stored line order.Quit ordered orders carries = absurd (cc)
call stored line (order.Cache other) ordered orders carries = inl (order.Cache other, orders, cc)
call stored line (order.Inline name text) ordered orders carries =
    let load = carries.1 in
    let is : ordered ≡ carries.0 = let same = carries.2 in cc in
    inl (order.Inline name text, orders, inl (load.0, load.1, ap instruction.Call (is ∙ load.2)))
call stored line (order.Load name file) ordered orders carries = absurd (cc)

late : (stored : List Stored) (line text : List ℕ) (o : Order) (m : Message) → IsOrderOf line o → IsTextWrong stored o m → text ≡ answer_text (said m) → IsSettled stored line (instruction.Answer text)
late stored line text order.Ping m orders wrong is = absurd wrong
late stored line text order.Quit m orders wrong is = absurd wrong
late stored line text (order.Cache ordered) m orders wrong is = absurd wrong
late stored line text (order.Inline name given) m orders wrong is = inl (order.Inline name given, orders, inr (m, wrong, ap instruction.Answer is))
late stored line text (order.Load name file) m orders wrong is = absurd wrong

wrong : (stored : List Stored) (line text : List ℕ) (m : Message) → IsWrong stored line m → text ≡ answer_text (said m) → IsSettled stored line (instruction.Answer text)
wrong stored line text m (inl early) is = inr (m, early, ap instruction.Answer is)
wrong stored line text m (inr found) is = late stored line text found.0 m found.1 found.2 is

in_vain : (stored : List Stored) (line text : List ℕ) (m : Message) → IsInVain stored line m → text ≡ answer_text (said m) → IsSettled stored line (instruction.Answer text)
in_vain stored line text m (inl found) is = wrong stored line text m found is
in_vain stored line text m (inr found) is =
    let same : answer_text (said (message.CannotRead found.1)) ≡ text = ap (λ (x : Message). answer_text (said x)) (sym found.3) ∙ sym is in
    subst (λ (t : List ℕ). IsSettled stored line (instruction.Answer t)) same (load stored line found.0 found.1 found.2.0 found.2.1 found.2.2)

answered : (stored : List Stored) (line text : List ℕ) → IsAnswerTo stored line text → IsSettled stored line (instruction.Answer text)
answered stored line text (inl quits) = quit stored line text quits.0 quits.1 quits.2
answered stored line text (inr vain) = in_vain stored line text vain.0 vain.1 vain.2

settled : (stored : List Stored) (line : List ℕ) (i : Instruction) → LeadsTo stored line i → IsSettled stored line i
settled stored line (instruction.Answer text) leads = answered stored line text leads
settled stored line instruction.Ping leads = ping stored line leads.0 leads.1 leads.2
settled stored line (instruction.Call ordered) leads = call stored line leads.0 ordered leads.1 leads.2

pub one_instruction : (stored : List Stored) (line : List ℕ) → BringsPlainText line → LeadsToOne stored line
one_instruction stored line plain one other p q = settled_one stored line one other plain (settled stored line one p) (settled stored line other q)

-- what a refused line leads to
pub refused_leads : (stored : List Stored) (line : List ℕ) (Why : Message → Type 0) (answer : CliAnswer) (i : Instruction) → ((m : Message) → Why m → IsInVain stored line m) → TellsWhy Why answer → ((text : List ℕ) × (answer ≡ Refused text) × (i ≡ instruction.Answer text)) → LeadsTo stored line i
refused_leads stored line Why answer i vain tells leads =
    let why : TellsWhy Why (Refused leads.0) = subst (λ (a : CliAnswer). TellsWhy Why a) leads.1 tells in
    subst (λ (x : Instruction). LeadsTo stored line x) (sym leads.2) (inr (why.0, vain why.0 why.1, why.2))
