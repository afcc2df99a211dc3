-- What is done beside workers.
use Rattle.std.specs.Prelude.{◌≡◌, ℕ, List, [], ◌++◌, Option, Some, None}
use Rattle.cache_law.specs.declared.call.Entry.{Entry}
use Rattle.cache_law.specs.Beginning.{Beginning}
use Rattle.shared_cache.specs.Sharing.{CallerKnows}
use Rattle.crew.specs.Calls.{HasCalled}

-- the places of a job's calls, where there is one
abbrev pub places_beside : {D : Type 0} → (D → List ℕ) → Option D → List ℕ
places_beside places None = []
places_beside places (Some done) = places done

module _ {J D : Type 0} (places : D → List ℕ) (Did : J → D → CallerKnows → CallerKnows → Type 0) where
  -- what became of a pass by which a job was to be done, if there is one
  abbrev pub Becomes : Option J → Option D → CallerKnows → CallerKnows → Type 0
  Becomes None None k after = after ≡ k
  Becomes None (Some done) k after = ⊥
  Becomes (Some job) None k after = ⊥
  Becomes (Some job) (Some done) k after = HasCalled k after (places done) × Did job done k after

  -- the same of a first pass, off which others were split before
  pub record BecomesFirst (job : Option J) (done : Option D) (before after : CallerKnows) : Type 0 where
    pub hired : CallerKnows
    pub split : hired ≡ record before { upto = hired.upto; made = hired.made }
    pub becomes : Becomes job done hired after

module _ {J D : Type 0} (Did : J → D → CallerKnows → CallerKnows → Type 0) (beginning : Beginning) (history : List Entry) where
  -- A job was done over this history by the caller of the number 0, from before its first entry; what it has seen is a front of it.
  pub record WasDone (job : J) (done : D) : Type 0 where
    pub first : CallerKnows
    pub last : CallerKnows
    pub number : first.number ≡ 0
    pub begins : first.setting ≡ Some beginning
    pub unseen : first.seen ≡ []
    pub did : Did job done first last
    pub front : (rest : List Entry) × (history ≡ last.seen ++ rest)

  -- the same, where there was a job
  abbrev pub IsDone : Option J → Option D → Type 0
  IsDone None None = Unit {0}
  IsDone None (Some done) = ⊥
  IsDone (Some job) None = ⊥
  IsDone (Some job) (Some done) = WasDone job done
