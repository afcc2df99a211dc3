-- A run of a text in numbers does what the text says.
use Rattle.std.proofs.Math.Path.{fun_ext}
use Rattle.std.proofs.Math.Nat.{le_refl}
use Rattle.std.proofs.lemmas.Bool.Decides.{nat_tests}
use Rattle.std.proofs.lemmas.List.{append_assoc, append-nil, get_or-set_same, get_or-set_other, length-set}
use Rattle.std.proofs.Common.{◌≡◌, ◌≢◌, ◌≤◌, ◌<◌, ◌+◌, ◌==◌, ℕ, zero, suc, Bool, true, false, List, [], ◌∷◌, ◌++◌, length, Option, Some, None, slice_get, slice_index, slice_set, if◌then◌else◌, refl, sym, ap, ◌∙◌, subst, arith}
use Rattle.vcl_tree.specs.Phrase.{Phrase}
use Rattle.vcl_tree.specs.declared.item.Item.{Item}
use Rattle.vcl_tree.specs.declared.item.Item.TheVariants as item
use Rattle.vmod_host.specs.declared.signature.Stored.{Stored}
use Rattle.vcl_language.specs.Names.{is_reserved, subroutine_named}
use Rattle.vcl_language.specs.Scopes.{subroutine_number}
use Rattle.vcl_language.specs.declared.scope.Subroutine.{Subroutine}
use Rattle.vcl_language.specs.declared.scope.Subroutine.TheVariants as subroutine
use Rattle.vcl_context.specs.declared.context.Context.{Context}
use Rattle.vcl_code.specs.declared.arena.Arena.{Arena}
use Rattle.vcl_code.specs.declared.node.Block.TheVariants.{End}
use Rattle.vcl_code.specs.Arenas.{empty, Numbered}
use Rattle.vcl_symbols.specs.Known.{Known}
use Rattle.vcl_code.specs.Statements.{numbered_block}
use Rattle.vcl_program.specs.declared.code.Code.{Code}
use Rattle.vcl_program.specs.Blocks.{Heads, heads, own_block, with_own, all_own, no_bodies, in_front, body, with_body, all_bodies}
use Rattle.vcl_check.specs.Sentences.{known_in}
use Rattle.vcl_program.specs.Codes.{own_of, built_in_of, code_of}
use Rattle.vcl_context.specs.declared.turn.Answer.{Answer}
use Rattle.vcl_operands.specs.Falls.{Falls, ChoicesFall}
use Rattle.vcl_operands.specs.Later.{Later}
use Rattle.vcl_operands.specs.Outs.{Out, and_then, fail}
use Rattle.vcl_operands.proofs.Binds.{bind_bind}
use Rattle.vcl_operands.proofs.Growing.{later-self, later-trans, get-later}
use Rattle.vcl_eval.specs.States.{State, state, Doing, nothing, most_statements}
use Rattle.vcl_eval.specs.Runs.{block_on, run_at}
use Rattle.vcl_meaning.specs.Meaning.{text_of, own_bodies, is_body_of, bodies_of, block_of, body_on, called_within, called, bodies_done, run_of}
use Rattle.vcl_meaning.proofs.Chains.{bind-nothing}
use Rattle.vcl_meaning.proofs.Growing.{block-later}
use Rattle.vcl_meaning.proofs.Trees.{Reading, go, CallsAgree, block-made-is, end-is}

-- the lists only grow
own-later : (known : Known) (name : List ℕ) (block : Phrase) (h : Heads) → Later h.arena (own_block known name block h).arena
own-later known name block h = by-name (is_reserved name)
  where
    by-name : (b : Bool) → Later h.arena (if b then h else heads (h.numbers ++ (numbered_block known block 0 h.arena).number ∷ []) (numbered_block known block 0 h.arena).arena).arena
    by-name true = later-self h.arena
    by-name false = block-later known block 0 h.arena

one-own-later : (known : Known) (h : Heads) (i : Item) → Later h.arena (with_own known h i).arena
one-own-later known h (item.Sub place name block) = own-later known name.text block h
one-own-later known h _ = later-self h.arena

all-own-later : (known : Known) (h : Heads) (is : List Item) → Later h.arena (all_own known h is).arena
all-own-later known h [] = later-self h.arena
all-own-later known h (i ∷ is) =
    later-trans h.arena (with_own known h i).arena (all_own known (with_own known h i) is).arena (one-own-later known h i) (all-own-later known (with_own known h i) is)

body-later : (known : Known) (s : Option Subroutine) (block : Phrase) (h : Heads) → Later h.arena (body known s block h).arena
body-later known None block h = later-self h.arena
body-later known (Some s) block h = block-later known block (slice_index h.numbers (subroutine_number s)) h.arena

one-body-later : (known : Known) (i : Item) (h : Heads) → Later h.arena (with_body known i h).arena
one-body-later known (item.Sub place name block) h = body-later known (subroutine_named name.text) block h
one-body-later known _ h = later-self h.arena

all-bodies-later : (known : Known) (is : List Item) (h : Heads) → Later h.arena (all_bodies known is h).arena
all-bodies-later known [] h = later-self h.arena
all-bodies-later known (i ∷ is) h =
    later-trans h.arena (all_bodies known is h).arena (with_body known i (all_bodies known is h)).arena (all-bodies-later known is h) (one-body-later known i (all_bodies known is h))

-- the numbers of the text's own bodies
abbrev pub IsBody : Reading → ℕ → Phrase → Type 0
IsBody r b e = (a : Arena) × (b ≡ (numbered_block r.text.known e 0 a).number) × Later (numbered_block r.text.known e 0 a).arena r.code.arena

abbrev pub AreBodies : Reading → List ℕ → List Phrase → Type 0
AreBodies r [] [] = Unit {0}
AreBodies r (b ∷ bs) (e ∷ es) = IsBody r b e × AreBodies r bs es
AreBodies r _ _ = ⊥

bodies-push : (r : Reading) (bs : List ℕ) (es : List Phrase) (b : ℕ) (e : Phrase) → AreBodies r bs es → IsBody r b e → AreBodies r (bs ++ b ∷ []) (es ++ e ∷ [])
bodies-push r [] [] b e h p = (p, tt)
bodies-push r (c ∷ bs) (f ∷ es) b e h p = (h.0, bodies-push r bs es b e h.1 p)
bodies-push r [] (f ∷ es) b e h p = absurd h
bodies-push r (c ∷ bs) [] b e h p = absurd h

one-own : (r : Reading) (name : List ℕ) (block : Phrase) (h : Heads) (es more : List Phrase) (b : Bool) → b ≡ is_reserved name → Later (own_block r.text.known name block h).arena r.code.arena → AreBodies r h.numbers es
    → (made : List Phrase) × (es ++ (if b then more else block ∷ more) ≡ made ++ more) × AreBodies r (own_block r.text.known name block h).numbers made
one-own r name block h es more true e later p =
    (es, refl, subst (λ (x : Bool). AreBodies r (if x then h else heads (h.numbers ++ (numbered_block r.text.known block 0 h.arena).number ∷ []) (numbered_block r.text.known block 0 h.arena).arena).numbers es) e p)
one-own r name block h es more false e later p =
    let n : Numbered = numbered_block r.text.known block 0 h.arena in
    let there : Later n.arena r.code.arena =
    subst (λ (x : Bool). Later (if x then h else heads (h.numbers ++ n.number ∷ []) n.arena).arena r.code.arena) (sym e) later in (
      es ++ block ∷ [],
      sym (append_assoc es (block ∷ []) more),
      subst (λ (x : Bool). AreBodies r (if x then h else heads (h.numbers ++ n.number ∷ []) n.arena).numbers (es ++ block ∷ [])) e (bodies-push r h.numbers es n.number block p (h.arena, refl, there)),
    )

own-are : (r : Reading) (is : List Item) (h : Heads) (es : List Phrase) → Later (all_own r.text.known h is).arena r.code.arena → AreBodies r h.numbers es → AreBodies r (all_own r.text.known h is).numbers (es ++ own_bodies is)
own-are r [] h es later p = subst (λ (l : List Phrase). AreBodies r h.numbers l) (sym (append-nil es)) p
own-are r (item.Sub place name block ∷ is) h es later p =
    let mid : Heads = own_block r.text.known name.text block h in
    let there : Later mid.arena r.code.arena = later-trans mid.arena (all_own r.text.known mid is).arena r.code.arena (all-own-later r.text.known mid is) later in
    let q = one-own r name.text block h es (own_bodies is) (is_reserved name.text) refl there p in
    subst (λ (l : List Phrase). AreBodies r (all_own r.text.known mid is).numbers l) (sym q.1) (own-are r is mid q.0 later q.2)
own-are r (item.Import place name ∷ is) h es later p = own-are r is h es later p
own-are r (item.Backend place name attributes ∷ is) h es later p = own-are r is h es later p
own-are r (item.NoBackend place name ∷ is) h es later p = own-are r is h es later p
own-are r (item.Probe place name attributes ∷ is) h es later p = own-are r is h es later p
own-are r (item.Acl place name entries ∷ is) h es later p = own-are r is h es later p

-- what a call of the text's own subroutines does
own-does : (r : Reading) (calls : Phrase → Doing) (s : State) (bs : List ℕ) (es : List Phrase) (k : ℕ) → AreBodies r bs es → ((b : ℕ) (e : Phrase) → IsBody r b e → calls e s ≡ go r b s)
    → body_on calls (slice_get es k) s ≡ block_on (go r) (slice_get bs k) s
own-does r calls s [] [] k h same = refl
own-does r calls s (b ∷ bs) (e ∷ es) zero h same = same b e h.0
own-does r calls s (b ∷ bs) (e ∷ es) (suc k) h same = own-does r calls s bs es k h.1 same
own-does r calls s [] (e ∷ es) k h same = absurd h
own-does r calls s (b ∷ bs) [] k h same = absurd h

body-is : (n : ℕ) (r : Reading) (calls : ℕ → Doing) → CallsAgree n r calls → (s : State) → n ≤ s.statements → (b : ℕ) (e : Phrase) → IsBody r b e → block_of r.text calls e s ≡ go r b s
body-is n r calls agree s p b e h =
    sym (ap (λ (x : ℕ). go r x s) h.1
    ∙ block-made-is n r calls agree e 0 h.0 h.2 s p
    ∙ ap (λ (f : Doing). and_then (block_of r.text calls e s) (λ done. f)) (fun_ext (end-is r))
    ∙ bind-nothing (block_of r.text calls e s))

calls-are : (r : Reading) → AreBodies r r.code.customs r.text.own → (d k : ℕ) (s : State) → suc most_statements ≤ d + s.statements → s.statements ≤ most_statements
    → called_within d r.text k s ≡ block_on (go r) (slice_get r.code.customs k) s
unfolding called_within
calls-are r own zero k s p q = absurd (omega arith)
calls-are r own (suc d) k s p q =
    own-does r (block_of r.text (called_within d r.text)) s r.code.customs r.text.own k own
    (body-is s.statements r (called_within d r.text) (λ j t h l. calls-are r own d j t (omega arith) l) s (le_refl s.statements))

called-agree : (r : Reading) → AreBodies r r.code.customs r.text.own → CallsAgree 0 r (called r.text)
unfolding called
called-agree r own k s p q = calls-are r own (suc most_statements) k s (omega arith) q

-- the bodies of a built-in subroutine, and the block behind them
abbrev pub bodies_then : Reading → List Phrase → Doing → Doing
bodies_then r [] last s = last s
bodies_then r (e ∷ es) last s = and_then (block_of r.text (called r.text) e s) (λ done. bodies_then r es last)

length-body : (known : Known) (s : Option Subroutine) (block : Phrase) (h : Heads) → length (body known s block h).numbers ≡ length h.numbers
length-body known None block h = refl
length-body known (Some s) block h =
    length-set h.numbers (subroutine_number s) (numbered_block known block (slice_index h.numbers (subroutine_number s)) h.arena).number

lengths-kept : (known : Known) (is : List Item) (h : Heads) → length (all_bodies known is h).numbers ≡ length h.numbers
lengths-kept known [] h = refl
lengths-kept known (item.Sub place name block ∷ is) h = length-body known (subroutine_named name.text) block (all_bodies known is h) ∙ lengths-kept known is h
lengths-kept known (item.Import place name ∷ is) h = lengths-kept known is h
lengths-kept known (item.Backend place name attributes ∷ is) h = lengths-kept known is h
lengths-kept known (item.NoBackend place name ∷ is) h = lengths-kept known is h
lengths-kept known (item.Probe place name attributes ∷ is) h = lengths-kept known is h
lengths-kept known (item.Acl place name entries ∷ is) h = lengths-kept known is h

number-low : (s : Subroutine) → subroutine_number s < 13
number-low subroutine.Recv = omega arith
number-low subroutine.Hash = omega arith
number-low subroutine.Purge = omega arith
number-low subroutine.Hit = omega arith
number-low subroutine.Miss = omega arith
number-low subroutine.Pass = omega arith
number-low subroutine.Deliver = omega arith
number-low subroutine.Synth = omega arith
number-low subroutine.BackendFetch = omega arith
number-low subroutine.BackendResponse = omega arith
number-low subroutine.BackendError = omega arith
number-low subroutine.Init = omega arith
number-low subroutine.Fini = omega arith

-- a block that was put in front of those of its subroutine
same-number : (i j : ℕ) → (i == j) ≡ true → i ≡ j
same-number i j e = grind (arith, nat_tests)

other-number : (i j : ℕ) → (i == j) ≡ false → j ≢ i
other-number i j e q = grind (arith, nat_tests)

put-is : (r : Reading) → CallsAgree 0 r (called r.text) → (i j : ℕ) (block : Phrase) (h : Heads) (es : List Phrase) (last : Doing) (b : Bool) → b ≡ (i == j) → i < length h.numbers
    → Later (in_front r.text.known block i h).arena r.code.arena → ((s : State) → go r (slice_index h.numbers j) s ≡ bodies_then r es last s) → (s : State)
    → go r (slice_index (in_front r.text.known block i h).numbers j) s ≡ bodies_then r (if b then block ∷ es else es) last s
put-is r agree i j block h es last true e low later ih s =
    let same : i ≡ j = same-number i j (sym e) in
    let n : Numbered = numbered_block r.text.known block (slice_index h.numbers i) h.arena in
    ap (λ (x : ℕ). go r (slice_index (slice_set h.numbers i n.number) x) s) (sym same)
    ∙ ap (λ (x : ℕ). go r x s) (get_or-set_same h.numbers i n.number 0 low)
    ∙ block-made-is 0 r (called r.text) agree block (slice_index h.numbers i) h.arena later s (omega arith)
    ∙ ap (λ (x : ℕ). and_then (block_of r.text (called r.text) block s) (λ done. go r (slice_index h.numbers x))) same
    ∙ ap (λ (f : Doing). and_then (block_of r.text (called r.text) block s) (λ done. f)) (fun_ext ih)
put-is r agree i j block h es last false e low later ih s =
    let n : Numbered = numbered_block r.text.known block (slice_index h.numbers i) h.arena in
    ap (λ (x : ℕ). go r x s) (get_or-set_other h.numbers i j n.number 0 (other-number i j (sym e))) ∙ ih s

body-put : (r : Reading) → CallsAgree 0 r (called r.text) → (z : Subroutine) (w : Option Subroutine) (block : Phrase) (h : Heads) (es : List Phrase) (last : Doing) → length h.numbers ≡ 13
    → Later (body r.text.known w block h).arena r.code.arena → ((s : State) → go r (slice_index h.numbers (subroutine_number z)) s ≡ bodies_then r es last s) → (s : State)
    → go r (slice_index (body r.text.known w block h).numbers (subroutine_number z)) s ≡ bodies_then r (if is_body_of z w then block ∷ es else es) last s
body-put r agree z None block h es last wide later ih s = ih s
body-put r agree z (Some w) block h es last wide later ih s =
    put-is r agree (subroutine_number w) (subroutine_number z) block h es last (subroutine_number w == subroutine_number z) refl (omega (arith, number-low w)) later ih s

built-in-is : (r : Reading) → CallsAgree 0 r (called r.text) → (z : Subroutine) (is : List Item) (h : Heads) → length h.numbers ≡ 13 → Later (all_bodies r.text.known is h).arena r.code.arena → (s : State)
    → go r (slice_index (all_bodies r.text.known is h).numbers (subroutine_number z)) s ≡ bodies_then r (bodies_of z is) (go r (slice_index h.numbers (subroutine_number z))) s
built-in-is r agree z [] h wide later s = refl
built-in-is r agree z (item.Sub place name block ∷ is) h wide later s =
    let w : Option Subroutine = subroutine_named name.text in
    let mid : Heads = all_bodies r.text.known is h in
    body-put r agree z w block mid (bodies_of z is) (go r (slice_index h.numbers (subroutine_number z))) (lengths-kept r.text.known is h ∙ wide) later
    (built-in-is r agree z is h wide (later-trans mid.arena (body r.text.known w block mid).arena r.code.arena (body-later r.text.known w block mid) later)) s
built-in-is r agree z (item.Import place name ∷ is) h wide later s = built-in-is r agree z is h wide later s
built-in-is r agree z (item.Backend place name attributes ∷ is) h wide later s = built-in-is r agree z is h wide later s
built-in-is r agree z (item.NoBackend place name ∷ is) h wide later s = built-in-is r agree z is h wide later s
built-in-is r agree z (item.Probe place name attributes ∷ is) h wide later s = built-in-is r agree z is h wide later s
built-in-is r agree z (item.Acl place name entries ∷ is) h wide later s = built-in-is r agree z is h wide later s

done-is : (r : Reading) (es : List Phrase) (s : State) → and_then (bodies_then r es nothing s) (λ done t. fail t) ≡ bodies_done r.text es s
done-is r [] s = refl
done-is r (e ∷ es) s =
    bind_bind (block_of r.text (called r.text) e s) (λ done. bodies_then r es nothing) (λ done t. fail t)
    ∙ ap (λ (f : Doing). and_then (block_of r.text (called r.text) e s) (λ done. f)) (fun_ext (done-is r es))

no-body : (z : Subroutine) → slice_index no_bodies (subroutine_number z) ≡ 0
no-body subroutine.Recv = refl
no-body subroutine.Hash = refl
no-body subroutine.Purge = refl
no-body subroutine.Hit = refl
no-body subroutine.Miss = refl
no-body subroutine.Pass = refl
no-body subroutine.Deliver = refl
no-body subroutine.Synth = refl
no-body subroutine.BackendFetch = refl
no-body subroutine.BackendResponse = refl
no-body subroutine.BackendError = refl
no-body subroutine.Init = refl
no-body subroutine.Fini = refl

text-later : (known : Known) (items : List Item) → Later empty (built_in_of known items).arena
text-later known items =
    later-trans empty (own_of known items).arena (built_in_of known items).arena (all-own-later known (heads [] empty) items)
    (all-bodies-later known items (heads no_bodies (own_of known items).arena))

-- the numbered form of a text
pub reading : (items : List Item) (stored : List Stored) → Falls (code_of items stored).arena.nodes → ChoicesFall (code_of items stored).arena.branches → Reading
reading items stored nodes choices = record {
  code = code_of items stored;
  text = text_of items stored;
  nodes = nodes;
  choices = choices;
  ended = get-later empty.blocks (code_of items stored).arena.blocks 0 End (text-later (known_in items stored) items).blocks refl;
  scenes = λ c. refl;
}

pub run-is : (items : List Item) (stored : List Stored) → Falls (code_of items stored).arena.nodes → ChoicesFall (code_of items stored).arena.branches → (z : Subroutine) (c : Context) (answers : List Answer)
    → run_of items stored z c answers ≡ run_at (code_of items stored) stored z c answers
unfolding run_of reading
run-is items stored nodes choices z c answers =
    let r : Reading = reading items stored nodes choices in
    let known : Known = known_in items stored in
    let front : Heads = own_of known items in
    let own : AreBodies r r.code.customs r.text.own =
    own-are r items (heads [] empty) [] (all-bodies-later known items (heads no_bodies front.arena)) tt in
    let agree : CallsAgree 0 r (called r.text) = called-agree r own in
    let s : State = state c c.statements answers in
    sym (ap (λ (m : Out State (Unit {0})). and_then m (λ done t. fail t))
    (built-in-is r agree z items (heads no_bodies front.arena) refl (later-self r.code.arena) s
    ∙ ap (λ (x : ℕ). bodies_then r (bodies_of z items) (go r x) s) (no-body z)
    ∙ ap (λ (f : Doing). bodies_then r (bodies_of z items) f s) (fun_ext (end-is r)))
    ∙ done-is r (bodies_of z items) s)

pub compiled-run : (code : Code) (items : List Item) (stored : List Stored) → code ≡ code_of items stored → Falls code.arena.nodes → ChoicesFall code.arena.branches
    → (z : Subroutine) (c : Context) (answers : List Answer) → run_of items stored z c answers ≡ run_at code stored z c answers
compiled-run code items stored e nodes choices z c answers =
    run-is items stored (subst (λ (x : Code). Falls x.arena.nodes) e nodes) (subst (λ (x : Code). ChoicesFall x.arena.branches) e choices) z c answers
    ∙ ap (λ (x : Code). run_at x stored z c answers) (sym e)
