use Rattle.std.proofs.Common.{true, sym, subst}
use Rattle.script_runs.specs.Told.{SaysLiveBy}
use Rattle.script_runs.proofs.OpenLemmas.{some_opened, some_begins, none_opened, none_begins}
use Rattle.script_runs.proofs.at_once.live_over_store.Goals as goal

pub returns-in-Bare : goal.returns-in-Bare
returns-in-Bare g c = record {
  says = λ begin opened low.
      let o = none_opened g.D.Disk.may_leave (g.D.Disk.reads begin) c.args.spread.readers c.args.opened c.in-Bare.journal c.in-Bare.is opened in
      subst (λ st. SaysLiveBy g.S.Source g.K.Sink g.D.Disk g.P.PatternMaker true c.args.script.now c.live_fresh.new.script c.args.out.now c.live_fresh.new.out begin c.give_back-in-Bare.result.disk c.args.patterns.now c.live_fresh.new.patterns st) (sym c.give_back-in-Bare.ensures.status)
      (c.live_fresh.ensures.says true begin c.give_back-in-Bare.result.disk (record {
        stored = o.stored;
        begins = o.begins;
        low = none_begins g.D.Disk.faults c.args.opened c.in-Bare.journal begin c.in-Bare.is low;
        has = c.give_back-in-Bare.ensures.disk;
      }));
}

pub returns-in-Stored : goal.returns-in-Stored
returns-in-Stored g c = record {
  says = λ begin opened low.
      let o = some_opened g.D.Disk.may_leave (g.D.Disk.reads begin) c.args.spread.readers c.args.opened c.in-Stored.book c.in-Stored.passes c.in-Stored.is opened in
      subst (λ st. SaysLiveBy g.S.Source g.K.Sink g.D.Disk g.P.PatternMaker true c.args.script.now c.live_opened.new.script c.args.out.now c.live_opened.new.out begin c.give_back.result.disk c.args.patterns.now c.live_opened.new.patterns st) (sym c.give_back.ensures.status)
      (c.live_opened.ensures.says begin c.give_back.result.disk (record {
        stored = o.stored;
        begins = o.begins;
        low = some_begins g.D.Disk.faults c.args.opened c.in-Stored.book c.in-Stored.passes begin c.in-Stored.is low;
        has = c.give_back.ensures.disk;
      }));
}
