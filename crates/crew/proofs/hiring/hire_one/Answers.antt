-- The worker that is hired.
use Rattle.std.proofs.Common.{Some, None, refl, ap, ◌∙◌}
use Rattle.shared_cache.specs.Sharing.{CallerKnows}
use Rattle.crew.proofs.hiring.hire_one.Goals as goal

pub returns-clause-hired : goal.returns-clause-hired
returns-clause-hired g c =
    let knows = c.split-pass.ensures.new.1 in record {
      worker = record {
        post = Some (record { shift = c.begin_shift.result; keeper = c.begin_keeper.result });
        accepted = c.split_off.result;
        left = c.split_off-2.result;
        leave = None;
      };
      items = c.push_reserved.ensures.items;
      hired = record {
        post = record { shift = c.begin_shift.result; keeper = c.begin_keeper.result };
        has = refl;
        pass = rw c.begin_shift.ensures.0 c.split-pass.ensures.new.0;
        fresh = rw c.begin_shift.ensures.0 (record {
          number_is = ap (λ (k : CallerKnows). k.number) knows;
          setting_is = ap (λ (k : CallerKnows). k.setting) knows;
          unseen = ap (λ (k : CallerKnows). k.seen) knows ∙ c.requires.unseen;
          none_made = ap (λ (k : CallerKnows). k.made) knows;
          none_ended = ap (λ (k : CallerKnows). k.ended) knows;
        });
        unused = rw c.begin_shift.ensures.1 (record {
          no_talk = c.in-Ok.ensures.talks;
          no_failed_dial = c.in-Ok.ensures.dials;
          no_failed_read = c.in-Ok.ensures.reads;
          no_failed_write = c.in-Ok.ensures.writes;
          no_reading = c.in-Ok.ensures.readings;
          no_word = c.in-Ok.ensures.words;
        });
        untold = c.begin_keeper.ensures;
        accepted = (c.split_off.ensures.parts, c.split_off.ensures.amount);
        left = (c.split_off-2.ensures.parts, c.split_off-2.ensures.amount);
      };
    }
