use Rattle.std.proofs.Common.{◌≡◌, ◌+◌, ◌++◌, ◌∷◌, [], take, get_or, sym, subst}
use Rattle.std.proofs.lemmas.List.{take_all, take_more}
use Rattle.net_types.specs.Sets.{Member}
use Rattle.net_types.specs.declared.address.Pid.{Pid}
use Rattle.route_server.specs.Listed.{Lists, StayListed}
use Rattle.route_server.proofs.ListedLaws.{member_push}
use Rattle.route_server.proofs.announced.Announced.note.Goals as goal
use Rattle.route_server.proofs.announced.Announced.note.Goals.{then-is_at, else-is_at}

pub loop-from-preserved : goal.loop-from-preserved
loop-from-preserved c =
    let xs = c.args.new.now in
    let i = c.loop-from.from-index in
    let x : Pid = get_or xs i (record { 0 = 0 }) in
    let passed : StayListed c.loop-from.self c.outdate_until-at.new.self = c.outdate_until-at.ensures in
    let stay : StayListed c.outdate_until-at.new.self c.if-is_at.self = elim c.if-is_at.branch [
      | then-is_at w ↦ subst (StayListed c.outdate_until-at.new.self) (sym w.self-is) (λ n p l. l)
      | else-is_at w ↦ subst (StayListed c.outdate_until-at.new.self) (sym w.self-is) w.list.ensures.kept
    ] in
    let own : Lists c.if-is_at.self x.0 c.args.prefix = elim c.if-is_at.branch [
      | then-is_at w ↦ stay x.0 c.args.prefix (passed x.0 c.args.prefix (c.loop-from.invariant.kept x.0 c.args.prefix (c.requires x.0 (c.is_at.ensures.there w.if-is_at.true))))
      | else-is_at w ↦ subst (λ a. Lists a x.0 c.args.prefix) (sym w.self-is) w.list.ensures.listed
    ] in
    let more : take (i + 1) xs ≡ take i xs ++ x ∷ [] = take_more xs i (record { 0 = 0 }) c.loop-from-test.true in
    record {
      kept = λ n p l. stay n p (passed n p (c.loop-from.invariant.kept n p l));
      listed = λ q m. member_push (take i xs) x q (Lists c.if-is_at.self q.0 c.args.prefix)
          (λ k. stay q.0 c.args.prefix (passed q.0 c.args.prefix (c.loop-from.invariant.listed q k)))
          (λ e. subst (λ f. Lists c.if-is_at.self f.0 c.args.prefix) (sym e) own)
          (subst (Member q) more m);
    }

pub returns-clause-kept : goal.returns-clause-kept
returns-clause-kept c n p l = c.outdate_until.ensures n p (c.loop-from.invariant.kept n p l)

pub returns-clause-listed : goal.returns-clause-listed
returns-clause-listed c q m =
    c.outdate_until.ensures q.0 c.args.prefix (c.loop-from.invariant.listed q
    (subst (Member q) (sym (take_all c.loop-from.from-index c.args.new.now c.loop-from-test.false)) m))
