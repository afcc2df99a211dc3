use Rattle.std.proofs.Common.{◌≡◌, Err, List, refl}
use Rattle.std.specs.Prelude.{IsErrOf}
use Rattle.cache_law.specs.declared.call.Entry.{Entry}
use Rattle.cache_law.specs.declared.cache.Told.{Told}
use Rattle.cache_law.specs.declared.cache.StepError.{StepError}
use Rattle.cache_law.specs.declared.cache.StepError.TheVariants.{HistoryFull, NoMemory, SegmentFull}
use Rattle.cache_law.specs.Beginning.{Beginning}
use Rattle.cache_law.specs.History.{reached}
use Rattle.cache_law.proofs.Segmenting.{never_told}
use Rattle.replay.specs.Plan.{plan_of}
use Rattle.replay.specs.declared.policy.Want.TheVariants as wants
use Rattle.replay.proofs.Asking.{others_as_told, own_as_told, asked, met, leads_on, can_on, due, too_much, told_answers, still_in_step}
use Rattle.replay.proofs.Runs.{went-still}
use Rattle.replay.proofs.Taking.{Takes-nil}
use Rattle.replay.proofs.rounds.ask.Goals as goal

is_full : (error : StepError) → error ≡ HistoryFull → IsErrOf {T = Told} {E = StepError} (Err error) HistoryFull
is_full HistoryFull is = refl
is_full NoMemory is = absurd (cc)
is_full SegmentFull is = absurd (cc)

pub unreachable-requires : goal.unreachable-requires
unreachable-requires g c =
    let beginning : Beginning = g.C.CacheCore.beginning c.args.core.now in
    let entries : List Entry = g.C.CacheCore.history c.args.core.now in
    never_told beginning.params (reached beginning entries) entries c.args.client c.args.call c.in-Err-SegmentFull.field-0 c.requires.in_step.unsegmented c.in-Err-SegmentFull.ensures.segment.0 c.in-Err-SegmentFull.field-0-is

pub returns-in-Err-HistoryFull-clause-asked : goal.returns-in-Err-HistoryFull-clause-asked
returns-in-Err-HistoryFull-clause-asked g c = λ kept scene at turn.
    let same = c.in-Err-HistoryFull.ensures.err in
    went-still (plan_of g.P.Policy.wants (g.C.CacheCore.beginning c.args.core.now)) scene _ _ _ same
    (too_much g.P.Policy.wants g.P.Policy.stands c.args.policy.now _ _ _ c.args.client c.args.moment c.args.call scene c.requires.in_step same (c.in-Err-HistoryFull.ensures.full (is_full c.in-Err-HistoryFull.field-0 c.in-Err-HistoryFull.field-0-is)) at turn, Takes-nil kept)

pub returns-in-Err-NoMemory-clause-asked : goal.returns-in-Err-NoMemory-clause-asked
returns-in-Err-NoMemory-clause-asked g c = λ kept scene at turn. went-still (plan_of g.P.Policy.wants (g.C.CacheCore.beginning c.args.core.now)) scene _ _ _ c.in-Err-NoMemory.ensures.err (Takes-nil kept)

pub resume-requires : goal.resume-requires
resume-requires g c =
    due g.P.Policy.wants g.P.Policy.stands c.args.policy.now c.args.client (wants.Ask c.args.call) _ c.requires.can (told_answers _ _ _ _ _ c.args.call c.in-Ok.told c.requires.in_step c.in-Ok.ensures.told)

pub returns-in-Ok-resume-clause-asked : goal.returns-in-Ok-resume-clause-asked
returns-in-Ok-resume-clause-asked g c = λ kept scene at turn.
    asked _ _ _ _ _ c.args.call c.in-Ok.told c.requires.in_step c.in-Ok.ensures.told g.P.Policy.wants g.P.Policy.stands c.args.policy.now scene at turn _ (
      met _ _ _ _ _ c.args.call c.in-Ok.told c.requires.in_step c.in-Ok.ensures.told g.P.Policy.wants g.P.Policy.stands c.args.policy.now c.resume.new.self c.in-Ok-resume.want scene at turn
          (leads_on g.P.Policy.wants g.P.Policy.stands c.args.policy.now c.resume.new.self c.args.client _ c.in-Ok-resume.want turn.round _ turn.leads c.in-Ok-resume.ensures.stands c.in-Ok-resume.ensures.wanted),
      Takes-nil kept,
    )

pub returns-in-Ok-resume-clause-can : goal.returns-in-Ok-resume-clause-can
returns-in-Ok-resume-clause-can g c =
    can_on g.P.Policy.wants g.P.Policy.stands c.args.policy.now c.resume.new.self c.args.client _ c.in-Ok-resume.want _ c.requires.can c.in-Ok-resume.ensures.stands c.in-Ok-resume.ensures.wanted

pub returns-in-Ok-resume-clause-in_step : goal.returns-in-Ok-resume-clause-in_step
returns-in-Ok-resume-clause-in_step g c = still_in_step _ _ _ _ _ c.args.call c.in-Ok.told c.requires.in_step c.in-Ok.ensures.told _ c.in-Ok.ensures.same

pub returns-in-Err-clause-asked : goal.returns-in-Err-clause-asked
returns-in-Err-clause-asked g c = λ kept scene at turn.
    asked _ _ _ _ _ c.args.call c.in-Ok.told c.requires.in_step c.in-Ok.ensures.told g.P.Policy.wants g.P.Policy.stands c.args.policy.now scene at turn _ (Takes-nil kept)

pub returns-in-Err-clause-in_step : goal.returns-in-Err-clause-in_step
returns-in-Err-clause-in_step g c = still_in_step _ _ _ _ _ c.args.call c.in-Ok.told c.requires.in_step c.in-Ok.ensures.told _ c.in-Ok.ensures.same

pub returns-in-Ok-resume-clause-others : goal.returns-in-Ok-resume-clause-others
returns-in-Ok-resume-clause-others g c = others_as_told _ _ _ _ _ c.args.call c.in-Ok.told c.requires.in_step c.in-Ok.ensures.told _ c.in-Ok.ensures.same

pub returns-in-Ok-resume-clause-own : goal.returns-in-Ok-resume-clause-own
returns-in-Ok-resume-clause-own g c = λ how token told.
    c.in-Ok-resume.ensures.waits c.in-Ok.told.moment token (own_as_told _ _ _ _ _ c.args.call c.in-Ok.told c.requires.in_step c.in-Ok.ensures.told _ c.in-Ok.ensures.same how token told)

pub returns-in-Err-clause-others : goal.returns-in-Err-clause-others
returns-in-Err-clause-others g c = others_as_told _ _ _ _ _ c.args.call c.in-Ok.told c.requires.in_step c.in-Ok.ensures.told _ c.in-Ok.ensures.same
