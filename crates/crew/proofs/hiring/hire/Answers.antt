-- Nobody is hired at first, and then one worker after another.
use Rattle.std.proofs.Common.{◌≡◌, ◌<◌, ◌-◌, Option, refl, ap, ◌∙◌, subst, arith}
use Rattle.std.specs.Prelude.{vec_len, OnOk}
use Rattle.cache_law.specs.Beginning.{Beginning}
use Rattle.turnstile.specs.Handles.{known}
use Rattle.shared_cache.specs.Passes.{IsPassOf}
use Rattle.shared_cache.specs.Sharing.{CallerKnows}
use Rattle.crew.specs.Hiring.{HiresOne, IsUnused}
use Rattle.crew.proofs.Hired.{ready_all}
use Rattle.crew.proofs.Hires.{hires_none, number_passed}
use Rattle.crew.proofs.hiring.hire.Goals as goal

pub hiring-init : goal.hiring-init
hiring-init g c = record {
  pass = c.requires.pass;
  hired = hires_none _ _ _ _ _ _ _ (known c.args.root.now) _ c.requires.none.0;
  below = let at = ap (λ (k : CallerKnows). k.upto) c.requires.first.knows in let fits = c.ranges.count.fits in omega arith;
  parts = (omega arith, omega arith);
  enough = c.requires.parts;
  nothing = c.requires.nothing;
  room = c.requires.room;
  few = omega arith;
  links = refl;
  kept = refl;
  given = refl;
  ports = refl;
  kits = refl;
  files = refl;
  listens = refl;
  shelves = refl;
  ended = refl;
}

pub hire_one-requires-clause-number : goal.hire_one-requires-clause-number
hire_one-requires-clause-number g c =
    let at = ap (λ (k : CallerKnows). k.number) c.hiring.invariant.hired.knows in
    let first = ap (λ (k : CallerKnows). k.number) c.requires.first.knows in
    let low : (known c.hiring.root).number < c.hiring.number = omega arith in
    λ κs h. (low, c.hiring.invariant.below)

pub hire_one-requires-clause-unseen : goal.hire_one-requires-clause-unseen
hire_one-requires-clause-unseen g c = λ κs h. ap (λ (k : CallerKnows). k.seen) c.hiring.invariant.hired.knows ∙ ap (λ (k : CallerKnows). k.seen) c.requires.first.knows

pub hiring-preserved : goal.hiring-preserved
hiring-preserved g c =
    let before = c.hiring.invariant in
    let same : (known c.hiring.root).setting ≡ (known c.args.root.now).setting = ap (λ (k : CallerKnows). k.setting) before.hired.knows in
    let one = subst (λ (setting : Option Beginning). OnOk c.hire_one.result (HiresOne (IsPassOf c.args.cache.now)
    (IsUnused g.W.Dialer.Dialer.talks g.W.Dialer.Dialer.dial_faults g.W.Dialer.Dialer.read_faults g.W.Dialer.Dialer.write_faults g.W.Clock.Clock.readings g.W.Clock.Clock.words)
    g.H.Host.pass_of g.H.Host.kit_of g.H.Service.Told setting c.hiring.number c.hiring.workers.items c.hire_one.new.workers.items)) same c.hire_one.ensures.hired in
    let next = number_passed _ _ _ _ _ _ c.hire_one.result (c.hiring.number - 1) c.hiring.number (known c.args.root.now) (known c.hiring.root) (known c.hire_one.new.root) c.hiring.workers.items
    c.hire_one.new.workers.items c.hiring.accepted.parts c.hire_one.new.accepted.parts c.hiring.left.parts c.hire_one.new.left.parts (vec_len c.hiring.workers)
    (vec_len c.hire_one.new.workers) before.hired (omega arith) before.below one c.hire_one.ensures.cut c.hire_one.ensures.parts c.hire_one.ensures.one c.hire_one.ensures.same in
    let p = next.parts.0 in
    let q = next.parts.1 in
    let p' = next.left.0 in
    let q' = next.left.1 in
    let few = next.few in record {
      pass = c.hire_one.ensures.pass;
      hired = next.hires;
      below = next.below;
      parts = (omega arith, omega arith);
      enough = (omega arith, omega arith);
      nothing = c.hire_one.ensures.nothing;
      room = omega arith;
      few = omega arith;
      links = c.hire_one.ensures.links ∙ before.links;
      kept = c.hire_one.ensures.kept ∙ before.kept;
      given = c.hire_one.ensures.given ∙ before.given;
      ports = c.hire_one.ensures.ports ∙ before.ports;
      kits = c.hire_one.ensures.kits ∙ before.kits;
      files = c.hire_one.ensures.files ∙ before.files;
      listens = c.hire_one.ensures.listens ∙ before.listens;
      shelves = c.hire_one.ensures.shelves ∙ before.shelves;
      ended = c.hire_one.ensures.ended ∙ before.ended;
    }

pub returns-clause-hired : goal.returns-clause-hired
returns-clause-hired g c =
    let none : c.hiring.number ≡ 0 = omega arith in
    rw none at c.hiring.invariant.hired

pub returns-clause-ready : goal.returns-clause-ready
returns-clause-ready g c =
    let none : c.hiring.number ≡ 0 = omega arith in
    ready_all (IsPassOf c.args.cache.now) (IsUnused g.W.Dialer.Dialer.talks g.W.Dialer.Dialer.dial_faults g.W.Dialer.Dialer.read_faults g.W.Dialer.Dialer.write_faults g.W.Clock.Clock.readings g.W.Clock.Clock.words)
    g.H.Host.pass_of g.H.Host.kit_of g.H.Service.Told (g.H.Service.Ready c.args.host.now c.args.cache.now) (g.met.H.Host.ready c.args.host.now c.args.cache.now) (known c.args.root.now) (known c.hiring.root)
    c.hiring.workers.items c.requires.first (rw none at c.hiring.invariant.hired)
