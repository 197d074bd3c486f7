use Rattle.std.proofs.Common.{◌≡◌, length, take, map, arith, ap, subst, sym, ◌∙◌}
use Rattle.net_types.specs.Sets.{Member}
use Rattle.net_types.specs.declared.address.Pid.{Pid}
use Rattle.route_server.specs.declared.held.Held.{Held}
use Rattle.route_server.proofs.ListedLaws.{among_participants, listed_after, row_listed}
use Rattle.route_server.proofs.RowLaws.{rising_short}
use Rattle.route_server.proofs.server.put_row.Goals as goal

pub put_participants-requires : goal.put_participants-requires
put_participants-requires c = let short = rising_short 0 256 c.args.change.row (omega arith) c.args.change.rising in let same = ap length c.items.ensures in omega (arith, short, same)

pub note_row-requires : goal.note_row-requires
note_row-requires c = row_listed c.args.rows.now.map c.args.announced.now c.args.change.prefix c.swap_row-old.result c.requires.listed c.swap_row-old.ensures.before

pub returns-clause-listed : goal.returns-clause-listed
returns-clause-listed c =
    let all : take c.len-count.result c.put_participants.new.pids ≡ map (λ (h : Held). h.from) c.args.change.row =
    ap (λ n. take n c.put_participants.new.pids) (c.len-count.ensures ∙ ap length (sym c.items.ensures)) ∙ c.put_participants.ensures ∙ ap (map (λ (h : Held). h.from)) c.items.ensures in
    listed_after c.args.rows.now.map c.swap_row-old.new.rows.map c.args.change c.args.announced.now c.note_row.new.announced c.swap_row-old.ensures.routes c.requires.listed c.note_row.ensures.kept
    (λ n there. let who : Pid = record { 0 = n } in c.note_row.ensures.listed who (subst (Member who) (sym all) (among_participants c.args.change.row n there)))
