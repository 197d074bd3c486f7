use Rattle.std.proofs.Common.{◌≡◌, refl}
use Rattle.std.specs.Prelude.{Some, None}
use Rattle.replay_run.specs.Command.{command_of}
use Rattle.replay_run.specs.declared.words.Command.TheVariants.{Load, Replay}
use Rattle.replay_run.proofs.Commands.{ends_otherwise, loads_said, no_command, other_command, replayed_otherwise}
use Rattle.replay_run.proofs.Ends.{ends_whole}
use Rattle.replay_run.proofs.Loads.{ends_loaded, not_read, not_usage}
use Rattle.replay_run.proofs.command.run.Goals as goal

-- ---- no command

pub returns-in-None-clause-replay : goal.returns-in-None-clause-replay
returns-in-None-clause-replay g c e =
    let none : command_of c.args.words.now ≡ None = cc in
    absurd (no_command (command_of c.args.words.now) Replay none e)

pub returns-in-None-clause-load : goal.returns-in-None-clause-load
returns-in-None-clause-load g c seed count e =
    let none : command_of c.args.words.now ≡ None = cc in
    absurd (no_command (command_of c.args.words.now) (Load seed count) none e)

pub returns-in-None-clause-complete : goal.returns-in-None-clause-complete
returns-in-None-clause-complete g c e within unread unwritten =
    let none : command_of c.args.words.now ≡ None = cc in
    absurd (no_command (command_of c.args.words.now) Replay none e)

pub returns-in-None-clause-generated : goal.returns-in-None-clause-generated
returns-in-None-clause-generated g c seed count e unwritten =
    let none : command_of c.args.words.now ≡ None = cc in
    absurd (no_command (command_of c.args.words.now) (Load seed count) none e)

-- ---- replay

pub returns-in-Some-Replay-clause-usage : goal.returns-in-Some-Replay-clause-usage
returns-in-Some-Replay-clause-usage g c =
    let said : command_of c.args.words.now ≡ Some Replay = cc in
    ends_otherwise c.replay.result (command_of c.args.words.now) Replay said
    (replayed_otherwise c.replay.result (g.S.Source.left c.args.source.now) (g.S.Source.left c.replay.new.source) (g.K.Sink.held c.args.sink.now) (g.K.Sink.held c.replay.new.sink) c.replay.new.sdx c.args.steps.now c.replay.new.steps c.replay.ensures.replay)

pub returns-in-Some-Replay-clause-untouched : goal.returns-in-Some-Replay-clause-untouched
returns-in-Some-Replay-clause-untouched g c is =
    absurd (replayed_otherwise c.replay.result (g.S.Source.left c.args.source.now) (g.S.Source.left c.replay.new.source) (g.K.Sink.held c.args.sink.now) (g.K.Sink.held c.replay.new.sink) c.replay.new.sdx c.args.steps.now c.replay.new.steps c.replay.ensures.replay is)

pub returns-in-Some-Replay-clause-load : goal.returns-in-Some-Replay-clause-load
returns-in-Some-Replay-clause-load g c seed count e =
    let said : command_of c.args.words.now ≡ Some Replay = cc in
    absurd (other_command (command_of c.args.words.now) seed count said e)

pub returns-in-Some-Replay-clause-unread : goal.returns-in-Some-Replay-clause-unread
returns-in-Some-Replay-clause-unread g c seed count e =
    let said : command_of c.args.words.now ≡ Some Replay = cc in
    absurd (other_command (command_of c.args.words.now) seed count said e)

pub returns-in-Some-Replay-clause-complete : goal.returns-in-Some-Replay-clause-complete
returns-in-Some-Replay-clause-complete g c said within unread unwritten =
    let r = c.replay.ensures in
    ends_whole c.replay.result (g.S.Source.left c.args.source.now) (g.S.Source.left c.replay.new.source) (g.K.Sink.held c.args.sink.now) (g.K.Sink.held c.replay.new.sink) c.replay.new.sdx c.args.steps.now c.replay.new.steps r.replay within
    (λ e. unread (r.read e)) (λ e. unwritten (r.write e))

pub returns-in-Some-Replay-clause-generated : goal.returns-in-Some-Replay-clause-generated
returns-in-Some-Replay-clause-generated g c seed count e unwritten =
    let said : command_of c.args.words.now ≡ Some Replay = cc in
    absurd (other_command (command_of c.args.words.now) seed count said e)

-- ---- load

pub returns-in-Some-Load-clause-usage : goal.returns-in-Some-Load-clause-usage
returns-in-Some-Load-clause-usage g c =
    let seed = c.in-Some-Load.seed in
    let count = c.in-Some-Load.count in
    let said : command_of c.args.words.now ≡ Some (Load seed count) = cc in
    ends_otherwise c.load.result (command_of c.args.words.now) (Load seed count) said
    (not_usage c.load.result seed count (g.K.Sink.held c.args.sink.now) (g.K.Sink.held c.load.new.sink) c.load.new.sdx c.args.steps.now c.load.new.steps c.load.ensures.load)

pub returns-in-Some-Load-clause-untouched : goal.returns-in-Some-Load-clause-untouched
returns-in-Some-Load-clause-untouched g c is =
    absurd (not_usage c.load.result c.in-Some-Load.seed c.in-Some-Load.count (g.K.Sink.held c.args.sink.now) (g.K.Sink.held c.load.new.sink) c.load.new.sdx c.args.steps.now c.load.new.steps c.load.ensures.load is)

pub returns-in-Some-Load-clause-replay : goal.returns-in-Some-Load-clause-replay
returns-in-Some-Load-clause-replay g c e =
    let said : command_of c.args.words.now ≡ Some (Load c.in-Some-Load.seed c.in-Some-Load.count) = cc in
    absurd (other_command (command_of c.args.words.now) c.in-Some-Load.seed c.in-Some-Load.count e said)

pub returns-in-Some-Load-clause-load : goal.returns-in-Some-Load-clause-load
returns-in-Some-Load-clause-load g c seed count e =
    let said : command_of c.args.words.now ≡ Some (Load c.in-Some-Load.seed c.in-Some-Load.count) = cc in
    loads_said c.load.result (command_of c.args.words.now) c.in-Some-Load.seed c.in-Some-Load.count seed count (g.K.Sink.held c.args.sink.now) (g.K.Sink.held c.load.new.sink) c.load.new.sdx c.args.steps.now c.load.new.steps said e c.load.ensures.load

pub returns-in-Some-Load-clause-unread : goal.returns-in-Some-Load-clause-unread
returns-in-Some-Load-clause-unread g c seed count e = refl

pub returns-in-Some-Load-clause-read : goal.returns-in-Some-Load-clause-read
returns-in-Some-Load-clause-read g c is =
    absurd (not_read c.load.result c.in-Some-Load.seed c.in-Some-Load.count (g.K.Sink.held c.args.sink.now) (g.K.Sink.held c.load.new.sink) c.load.new.sdx c.args.steps.now c.load.new.steps c.load.ensures.load is)

pub returns-in-Some-Load-clause-write : goal.returns-in-Some-Load-clause-write
returns-in-Some-Load-clause-write g c = c.load.ensures.write

pub returns-in-Some-Load-clause-complete : goal.returns-in-Some-Load-clause-complete
returns-in-Some-Load-clause-complete g c e within unread unwritten =
    let said : command_of c.args.words.now ≡ Some (Load c.in-Some-Load.seed c.in-Some-Load.count) = cc in
    absurd (other_command (command_of c.args.words.now) c.in-Some-Load.seed c.in-Some-Load.count e said)

pub returns-in-Some-Load-clause-generated : goal.returns-in-Some-Load-clause-generated
returns-in-Some-Load-clause-generated g c seed count e unwritten =
    ends_loaded c.load.result c.in-Some-Load.seed c.in-Some-Load.count (g.K.Sink.held c.args.sink.now) (g.K.Sink.held c.load.new.sink) c.load.new.sdx c.args.steps.now c.load.new.steps c.load.ensures.load
    (λ w. unwritten (c.load.ensures.write w))
