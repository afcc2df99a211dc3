-- Statements, blocks and branches, numbered as loops over them number them.
use Rattle.std.proofs.lemmas.List.{at_drop_all}
use Rattle.std.proofs.Common.{◌≡◌, ◌≤◌, ℕ, length, drop, List, [], ◌∷◌, ◌++◌, refl, sym, ap, ◌∙◌, Result, Ok, Err, IfOk}
use Rattle.vcl_tree.specs.Phrase.{Phrase, Node, Nothing, More, If, ElseIf, Else, chain, list_of}
use Rattle.vcl_code.specs.declared.arena.Arena.{Arena}
use Rattle.vcl_code.specs.declared.node.Action.{Action}
use Rattle.vcl_code.specs.declared.node.Action.TheVariants as action
use Rattle.vcl_code.specs.declared.node.Arm.{Arm}
use Rattle.vcl_code.specs.declared.node.Block.TheVariants.{Then}
use Rattle.vcl_code.specs.declared.node.Choice.{Choice}
use Rattle.vcl_code.specs.declared.node.Choice.TheVariants as choice
use Rattle.vcl_code.specs.Arenas.{Numbered, at, with_block, with_branch}
use Rattle.vcl_symbols.specs.Known.{Known}
use Rattle.vcl_code.specs.Statements.{acted, Acts, acts, one_act_more, Arms, arms_in, with_more_arms, Chosen, chosen, branch, with_chain, with_arms, if_acted, action_of, arms_of, arm_of, actions_of}

-- the last action of a chain is put in first
chain-push : (xs : List Action) (x : Action) (next : ℕ) (a : Arena)
    → with_chain (xs ++ x ∷ []) next a ≡ with_chain xs (with_block (Then x next) a).number (with_block (Then x next) a).arena
chain-push [] x next a = refl
chain-push (y ∷ ys) x next a = ap (λ (r : Numbered). with_block (Then y r.number) r.arena) (chain-push ys x next a)

pub chain-step : (xs : List Action) (x : Action) (next k : ℕ) (a b : Arena) → with_block (Then x next) a ≡ at k b
    → with_chain xs k b ≡ with_chain (xs ++ x ∷ []) next a
chain-step xs x next k a b e = sym (chain-push xs x next a ∙ ap (λ (r : Numbered). with_chain xs r.number r.arena) e)

-- likewise the last branch
arms-push : (xs : List Arm) (x : Arm) (other : Choice) (a : Arena)
    → with_arms (xs ++ x ∷ []) other a ≡ with_arms xs (choice.Branch (with_branch (branch x other) a).number) (with_branch (branch x other) a).arena
arms-push [] x other a = refl
arms-push (y ∷ ys) x other a =
    ap (λ (r : Chosen). chosen (choice.Branch (with_branch (branch y r.choice) r.arena).number) (with_branch (branch y r.choice) r.arena).arena) (arms-push ys x other a)

pub arms-step : (xs : List Arm) (x : Arm) (other : Choice) (k : ℕ) (a b : Arena) → with_branch (branch x other) a ≡ at k b
    → with_arms xs (choice.Branch k) b ≡ with_arms (xs ++ x ∷ []) other a
arms-step xs x other k a b e = sym (arms-push xs x other a ∙ ap (λ (r : Numbered). with_arms xs (choice.Branch r.number) r.arena) e)

pub arms-end : (xs : List Arm) (other last : Choice) (a b : Arena) → chosen last b ≡ with_arms xs other a → if_acted other (arms_in xs a) ≡ acted (action.If last) b
arms-end xs other last a b e = sym (ap (λ (r : Chosen). acted (action.If r.choice) r.arena) e)

-- further statements
abbrev pub further_acts : Known → Acts → List Phrase → Acts
further_acts known d [] = d
further_acts known d (p ∷ ps) = further_acts known (one_act_more d (action_of known p)) ps

acts-chain : (known : Known) (front : Phrase) (a : Arena) (items : List Phrase)
    → further_acts known (actions_of known front a) items ≡ actions_of known (chain More front items) a
unfolding actions_of
acts-chain known front a [] = refl
acts-chain known front a (p ∷ ps) = acts-chain known (Node More front p) a ps

acts-none : (known : Known) (a : Arena) → acts [] a ≡ actions_of known Nothing a
unfolding actions_of
acts-none known a = refl

pub acts-end : (known : Known) (a : Arena) (items : List Phrase) (i : ℕ) (after : Acts)
    → further_acts known after (drop i items) ≡ further_acts known (acts [] a) items → length items ≤ i
    → actions_of known (list_of items) a ≡ after
acts-end known a items i after h ended =
    sym (acts-chain known Nothing a items) ∙ ap (λ (s : Acts). further_acts known s items) (sym (acts-none known a)) ∙ sym h
    ∙ at_drop_all (λ (ps : List Phrase). further_acts known after ps) items i ended

-- further branches
abbrev pub further_arms : Known → Arms → List Phrase → Arms
further_arms known d [] = d
further_arms known d (p ∷ ps) = further_arms known (with_more_arms d (arm_of known p)) ps

arms-chain : (known : Known) (front : Phrase) (a : Arena) (items : List Phrase)
    → further_arms known (arms_of known front a) items ≡ arms_of known (chain ElseIf front items) a
unfolding arms_of
arms-chain known front a [] = refl
arms-chain known front a (p ∷ ps) = arms-chain known (Node ElseIf front p) a ps

arms-first : (known : Known) (sign first : Phrase) (a : Arena) → arms_of known (Node If sign first) a ≡ arm_of known first a
unfolding arms_of
arms-first known sign first a = refl

pub all-arms : (known : Known) (sign first : Phrase) (a a1 b : Arena) (x : Arm) (items : List Phrase) (i : ℕ) (xs : List Arm)
    → arm_of known first a ≡ arms_in (x ∷ []) a1
    → further_arms known (arms_in xs b) (drop i items) ≡ further_arms known (arms_in (x ∷ []) a1) items → length items ≤ i
    → arms_of known (chain ElseIf (Node If sign first) items) a ≡ arms_in xs b
all-arms known sign first a a1 b x items i xs e h ended =
    sym (arms-chain known (Node If sign first) a items) ∙ ap (λ (s : Arms). further_arms known s items) (arms-first known sign first a ∙ e) ∙ sym h
    ∙ at_drop_all (λ (ps : List Phrase). further_arms known (arms_in xs b) ps) items i ended

-- an `if` without `else`
later-if : (known : Known) (front other : Phrase) (a : Arena) (items : List Phrase)
    → action_of known (chain ElseIf (Node ElseIf front other) items) a ≡ if_acted choice.Nothing (arms_of known (chain ElseIf (Node ElseIf front other) items) a)
unfolding action_of
later-if known front other a [] = refl
later-if known front other a (p ∷ ps) = later-if known (Node ElseIf front other) p a ps

pub whole-if : (known : Known) (sign first : Phrase) (a : Arena) (items : List Phrase)
    → action_of known (chain ElseIf (Node If sign first) items) a ≡ if_acted choice.Nothing (arms_of known (chain ElseIf (Node If sign first) items) a)
unfolding action_of
whole-if known sign first a [] = refl
whole-if known sign first a (p ∷ ps) = later-if known (Node If sign first) p a ps

pub if-end : {E : Type 0} (known : Known) (sign first : Phrase) (items : List Phrase) (a : Arena) (xs : List Arm) (b : Arena) (r : Result Action E) (z : Arena)
    → arms_of known (chain ElseIf (Node If sign first) items) a ≡ arms_in xs b
    → IfOk r (λ x. if_acted choice.Nothing (arms_in xs b) ≡ acted x z) → IfOk r (λ x. action_of known (chain ElseIf (Node If sign first) items) a ≡ acted x z)
if-end known sign first items a xs b (Ok x) z e h = whole-if known sign first a items ∙ ap (λ (d : Arms). if_acted choice.Nothing d) e ∙ h
if-end known sign first items a xs b (Err x) z e h = tt

-- an `if` with an `else`
pub else-end : {E : Type 0} (known : Known) (front block : Phrase) (a : Arena) (xs : List Arm) (b : Arena) (ys : List Action) (b1 : Arena) (k : ℕ) (b2 : Arena) (r : Result Action E) (z : Arena)
    → arms_of known front a ≡ arms_in xs b → actions_of known block b ≡ acts ys b1 → with_chain ys 0 b1 ≡ at k b2
    → IfOk r (λ x. if_acted (choice.Block k) (arms_in xs b2) ≡ acted x z) → IfOk r (λ x. action_of known (Node Else front block) a ≡ acted x z)
unfolding action_of
else-end known front block a xs b ys b1 k b2 (Ok x) z e f g h = rw (e, f, g) h
else-end known front block a xs b ys b1 k b2 (Err x) z e f g h = tt
