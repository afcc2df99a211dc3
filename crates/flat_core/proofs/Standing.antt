-- The plain cache's shelf stands for what the entries reach.
use Rattle.std.proofs.Common.{filter, ◌≡◌, ◌≤◌, ◌++◌, ◌∷◌, ℕ, Bool, List, [], Option, refl, sym, ap, ◌∙◌, subst, arith}
use Rattle.cache_law.specs.declared.ban.BanLine.{BanLine}
use Rattle.cache_law.specs.declared.ban.Issued.{Issued}
use Rattle.cache_law.specs.declared.call.Query.{Query}
use Rattle.cache_law.specs.declared.call.Call.{Call}
use Rattle.cache_law.specs.declared.call.Entry.{Entry}
use Rattle.cache_law.specs.BansAtOnce.{open_lines}
use Rattle.cache_law.specs.Bases.{AreAlikeAsSeen, AreNumberedApart, IsClosed, IsSound}
use Rattle.cache_law.specs.Object.{in_time}
use Rattle.cache_law.specs.Beginning.{Beginning}
use Rattle.cache_law.specs.History.{next_state, reached}
use Rattle.cache_law.specs.Law.{MayAnswer, answered, behind, refused}
use Rattle.cache_law.specs.Lookup.{Scan, scanned}
use Rattle.cache_law.specs.State.{State, Held, as_seen, at_moment, is_gone, those_in_time}
use Rattle.cache_law.proofs.Sound.{sound_at}
use Rattle.cache_desk.specs.declared.answer.Answer.{Answer}
use Rattle.cache_frame.specs.declared.seen.Seen.{Seen as SeenBy}
use Rattle.cache_frame.specs.declared.seen.Use.{Use}
use Rattle.cache_frame.specs.Shelves.{AreShown, IsScan, Joins, LooksOver, Reopens, Tells, entry_of, used_for}
use Rattle.cache_desk.specs.Answers.{Answers}
use Rattle.cache_desk.specs.Stock.{Stock, no_stock, stock_at, stock_of, with_stock}
use Rattle.flat_core.specs.declared.stored_object.StoredObject.{StoredObject}
use Rattle.flat_core.specs.declared.stored_object.Fate.{Fate}
use Rattle.flat_core.specs.declared.scan.Seen.{Seen}
use Rattle.flat_core.specs.Scans.{seen_all}
use Rattle.flat_core.specs.Rests.{laid, same_at, stands_on}
use Rattle.flat_core.specs.Shelf.{StandsFor, Stored, stock_in}
use Rattle.flat_core.specs.StoredObject.{AreOrdered, AreTested, held_all, settled, settled_held, using_in}
use Rattle.flat_core.specs.Banning.{is_needed}
use Rattle.flat_core.proofs.Bannings.{all_listed}
use Rattle.flat_core.proofs.Cuts.{cut_alike, cut_base, cut_falls}
use Rattle.flat_core.proofs.Replies.{used_left}
use Rattle.flat_core.proofs.Scans.{as_scan, scans}
use Rattle.flat_core.proofs.Tested.{filter_tested, settled_tested}
use Rattle.flat_core.proofs.Uses.{using_tested}

-- what was answered of the state with what is stored
pub moves : (old new : Stored) (room : ℕ) (beginning : Beginning) (entries : List Entry) (caller now : ℕ) (call : Call) (left : State) (answer : Answer) → StandsFor old beginning entries → (reached beginning entries).moment ≤ now → beginning.params.room ≡ room
    → Answers (laid old (reached beginning entries)) left now call (answered room (at_moment now (laid old (reached beginning entries))) caller call) answer → stock_of left ≡ stock_in new → AreOrdered new.issued new.bans new.objects
    → Joins StandsFor new beginning entries (entry_of caller now call answer.told)
moves old new room beginning entries caller now call left answer stands later is_room answers stocks ordered =
    let state : State = reached beginning entries in
    let here = same_at old state now stands.reaches later in
    let so : Answers (laid old state) left now call (answered beginning.params.room (at_moment now (laid old state)) caller call) answer =
    subst (λ (r : ℕ). Answers (laid old state) left now call (answered r (at_moment now (laid old state)) caller call) answer) (sym is_room) answers in
    record {
      allows = subst (λ (s : State). MayAnswer s call (answered beginning.params.room s caller call).reply answer.told) here so.allows;
      stands = stands_on new beginning entries (entry_of caller now call answer.told) ordered
          (ap (λ (s : Stock). record { issued = s.issued; bans = s.bans; objects = those_in_time now s.objects }) (sym stocks)
          ∙ ap stock_of so.leaves
          ∙ ap (λ (s : State). stock_of (at_moment now (behind answer.told (refused s call) (answered beginning.params.room s caller call).state))) here);
    }

-- no objects, and no bans
pub stands_empty : (stored : Stored) → stored ≡ record { issued = 0; bans = []; objects = [] } → (beginning : Beginning) → stock_of beginning.base ≡ no_stock → StandsFor stored beginning []
stands_empty stored empty beginning none =
    subst (λ (s : Stored). StandsFor s beginning []) (sym empty)
    (record {
      ordered = record { falling = tt; tested = tt };
      issued = ap (λ (s : Stock). s.issued) (sym none);
      reaches = ap (λ (s : Stock). as_seen (record beginning.base { issued = s.issued; bans = s.bans; objects = s.objects })) (sym none);
    })

-- whether a stale object is gone
pub gone_so : (stored : Stored) (now : ℕ) (stale : Option ℕ) (gone : Bool) → gone ≡ is_gone stale (those_in_time now (held_all stored.bans stored.objects)) → Tells StandsFor stored now (λ (state : State). gone ≡ is_gone stale state.objects)
gone_so stored now stale gone is_ beginning entries sound stands later =
    is_ ∙ ap (λ (s : State). is_gone stale s.objects) (same_at stored (reached beginning entries) now stands.reaches later)

-- the list of bans shows them
pub shown_so : (stored : Stored) (now : ℕ) (lines : List BanLine) → lines ≡ open_lines stored.bans → Tells StandsFor stored now (AreShown lines)
shown_so stored now lines are beginning entries sound stands later =
    subst (AreShown lines) (same_at stored (reached beginning entries) now stands.reaches later)
    (subst (λ (ls : List BanLine). AreShown ls (at_moment now (laid stored (reached beginning entries)))) (sym are) (all_listed stored.bans stored.objects now))

-- what a lookup sees
pub seen_so : (stored : Stored) (now : ℕ) (query : Query) (seen : Seen) (told : SeenBy (List Fate)) → seen ≡ seen_all now query stored.issued stored.bans stored.objects → told.fresh ≡ seen.fresh → told.grace ≡ seen.grace → told.stale ≡ seen.stale
    → Tells StandsFor stored now (IsScan now query told)
seen_so stored now query seen told is_ fresh grace stale beginning entries sound stands later =
    let here = same_at stored (reached beginning entries) now stands.reaches later in
    let law = ap (λ (s : State). scanned now query s.objects) (sym here) ∙ scans now query stored.issued stored.bans stored.objects stands.ordered.falling ∙ ap (as_scan now (held_all stored.bans stored.objects)) (sym is_) in
    record {
      fresh = ap (λ (s : Scan Held). s.fresh) law ∙ sym fresh;
      grace = ap (λ (s : Scan Held). s.grace) law ∙ sym grace;
      stale = ap (λ (s : Scan Held). s.stale) law ∙ sym stale;
    }

-- what a lookup leaves
pub looks_over : (old new : Stored) (used now : ℕ) (query : Query) (use_ : Use) (fates : List Fate) → fates ≡ (seen_all now query old.issued old.bans old.objects).fates
    → new ≡ record old { objects = using_in now used use_ (settled old.issued fates old.objects) } → LooksOver StandsFor old new used now query use_
looks_over old new used now query use_ fates are is_ beginning entries entry sound stands later place at_ call_ law =
    let state : State = reached beginning entries in
    let next : State = next_state beginning.params state entry in
    let here = same_at old state now stands.reaches later in
    let hs : List Held = held_all old.bans old.objects in
    let apart : AreNumberedApart (those_in_time now hs) = subst (λ (s : State). AreNumberedApart s.objects) (sym here) (sound_at now state sound).apart in
    let seen : Seen = seen_all now query old.issued old.bans old.objects in
    let scan : (scanned now query (those_in_time now state.objects)).objects ≡ those_in_time now (settled_held fates hs) =
    ap (λ (s : State). (scanned now query s.objects).objects) (sym here) ∙ ap (λ (s : Scan Held). s.objects) (scans now query old.issued old.bans old.objects stands.ordered.falling)
    ∙ ap (λ (f : List Fate). those_in_time now (settled_held f hs)) (sym are) in
    let later_ : List StoredObject = using_in now used use_ (settled old.issued fates old.objects) in
    let left = used_left now used old.issued old.bans fates old.objects later_ use_ stands.ordered.falling apart refl in
    subst (λ (s : Stored). StandsFor s beginning (entries ++ entry ∷ [])) (sym is_)
    (stands_on (record old { objects = later_ }) beginning entries entry
    (record { falling = stands.ordered.falling; tested = using_tested old.issued now used use_ _ (settled_tested old.issued old.issued fates old.objects (omega arith) stands.ordered.tested) })
    (subst (λ (m : ℕ). stock_at m (laid (record old { objects = later_ }) state) ≡ stock_at m next) (sym at_)
    (ap (λ (o : List Held). record { issued = old.issued; bans = old.bans; objects = o }) left
    ∙ ap (λ (s : State). record { issued = s.issued; bans = s.bans; objects = those_in_time now (used_for used use_ (those_in_time now (settled_held fates hs))) }) here
    ∙ ap (λ (o : List Held). record { issued = state.issued; bans = state.bans; objects = those_in_time now (used_for used use_ o) }) (sym scan)
    ∙ ap (λ (n : ℕ). record { issued = state.issued; bans = state.bans; objects = those_in_time now (used_for n use_ (scanned now query (those_in_time now state.objects)).objects) }) (sym place)
    ∙ ap (λ (s : Stock). record { issued = s.issued; bans = s.bans; objects = those_in_time now s.objects }) (sym law))))

-- what is cut begins a history
pub reopens : (stored new : Stored) (moment : ℕ) (left : List StoredObject) → left ≡ filter (λ (k : StoredObject). in_time moment k.view.object) stored.objects → new ≡ record { issued = stored.issued; bans = filter (is_needed left) stored.bans; objects = left }
    → (beginning : Beginning) (entries : List Entry) → IsSound (reached beginning entries) → StandsFor stored beginning entries → (reached beginning entries).moment ≡ moment → IsClosed (reached beginning entries) → Reopens StandsFor new (stock_in new) beginning entries
reopens stored new moment left thinned is_ beginning entries sound stands at_ closed =
    let state : State = reached beginning entries in
    let old : State = laid stored state in
    let bans : List Issued = filter (is_needed left) stored.bans in
    let thin : left ≡ filter (λ (k : StoredObject). in_time old.moment k.view.object) stored.objects =
    thinned ∙ ap (λ (m : ℕ). filter (λ (k : StoredObject). in_time m k.view.object) stored.objects) (sym at_) in
    let seen : IsSound (as_seen old) = subst IsSound (sym stands.reaches) (sound_at state.moment state sound) in
    let here : IsClosed old = record { rounds = closed.rounds; fetches = closed.fetches } in
    let cut : Stored = record { issued = stored.issued; bans = bans; objects = left } in
    subst (λ (s : Stored). Reopens StandsFor s (stock_in s) beginning entries) (sym is_)
    (record {
      base = cut_base old stored.objects left bans refl stands.ordered.falling thin refl seen here;
      alike = subst (AreAlikeAsSeen (as_seen (with_stock (stock_in cut) state))) stands.reaches (cut_alike old stored.objects left bans refl stands.ordered.falling thin refl);
      stands = record {
        ordered = record {
          falling = cut_falls old stored.objects left bans refl stands.ordered.falling thin refl;
          tested = subst (AreTested stored.issued) (sym thinned) (filter_tested stored.issued (λ (k : StoredObject). in_time moment k.view.object) stored.objects stands.ordered.tested);
        };
        issued = refl;
        reaches = refl;
      };
    })
