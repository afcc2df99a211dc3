-- What was sent of a response.
use Rattle.std.proofs.Common.{◌≡◌, ℕ, ◌+◌, ◌-◌, ◌<◌, ◌≤◌, ◌||◌, List, [], ◌++◌, length, take, drop, Option, refl, sym, ap, ◌∙◌, subst, arith}
use Rattle.std.proofs.Math.Seq.{take-append-add}
use Rattle.std.proofs.lemmas.List.{append-nil, length-append, take_all, take-append-drop}
use Rattle.wire.specs.Flow.{Flow, Moves}
use Rattle.wire.proofs.Flowing.{Moves-none}
use Rattle.delivery.specs.declared.finishing.Delivery.{Delivery}
use Rattle.delivery.specs.Sent.{delivery_text}
use Rattle.round_lead.specs.declared.cut.Cut.TheVariants.{NoMemory, WriteFault}
use Rattle.round_lead.specs.declared.keeping.Progress.{Progress}
use Rattle.round_lead.specs.Steps.{Sends, SendsPart, SameCalls}
use Rattle.round_lead.specs.Things.{says_close}

pub sends_none : (over : Option Flow) (p p' : Progress) (delivery : Delivery) → p'.sent.items ≡ p.sent.items → p'.closes ≡ p.closes → SameCalls p p' → SendsPart over over p p' delivery NoMemory
sends_none over p p' delivery same closes rest = record {
  part = [];
  left = delivery_text delivery;
  is = refl;
  moves = Moves-none over;
  sent_are = same ∙ sym (append-nil p.sent.items);
  closes_are = closes;
  rest = rest;
  why = refl;
}

pub sends_part : (over over' : Option Flow) (p p' : Progress) (delivery : Delivery) (text sent : List ℕ) (taken all len : ℕ) → text ≡ delivery_text delivery → len ≡ length text → taken < len
    → Moves over over' [] (take taken text) → sent ≡ p.sent.items ++ text → all ≡ length sent → p'.sent.items ≡ take (all - (len - taken)) sent → p'.closes ≡ p.closes → SameCalls p p'
    → SendsPart over over' p p' delivery WriteFault
sends_part over over' p p' delivery text sent taken all len text_is len_is less moves sent_is all_is cut closes rest =
    let many : all - (len - taken) ≡ length p.sent.items + taken = omega (arith, len_is, all_is, ap length sent_is, length-append p.sent.items text) in
    record {
      part = take taken text;
      left = drop taken text;
      is = sym text_is ∙ sym (take-append-drop taken text);
      moves = moves;
      sent_are = cut ∙ (ap (λ (k : ℕ). take k sent) many ∙ (ap (λ (l : List ℕ). take (length p.sent.items + taken) l) sent_is ∙ take-append-add p.sent.items text taken));
      closes_are = closes;
      rest = rest;
      why = tt;
    }

pub sends_whole : (over over' : Option Flow) (p p' : Progress) (delivery : Delivery) (text : List ℕ) (taken : ℕ) → text ≡ delivery_text delivery → length text ≤ taken → taken ≤ length text
    → Moves over over' [] (take taken text) → p'.sent.items ≡ p.sent.items ++ text → p'.closes ≡ (p.closes || says_close delivery) → SameCalls p p' → Sends over over' p p' delivery
sends_whole over over' p p' delivery text taken text_is all most moves sent closes rest =
    let whole : take taken text ≡ text = take_all taken text all in
    record {
      moves = subst (λ (l : List ℕ). Moves over over' [] l) (whole ∙ text_is) moves;
      sent_are = sent ∙ ap (λ (l : List ℕ). p.sent.items ++ l) text_is;
      closes_are = closes;
      rest = rest;
    }
