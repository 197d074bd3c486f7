use Rattle.std.proofs.Common.{◌<◌, ◌^◌, sym, ap, subst, ◌∙◌, arith}
use Rattle.prefix_classes.proofs.CountLemmas.{had_some, find_kept, small_number, after_put}
use Rattle.prefix_classes.specs.Classes.{Classes}
use Rattle.prefix_classes.proofs.class_map.ClassMap.put.Goals as goal

-- the prefix had a tag
pub move_member-requires-clause-some : goal.move_member-requires-clause-some
move_member-requires-clause-some c = had_some _ _ c.args.prefix c.in-Some.before c.self.invariant (sym c.put-before.ensures.value ∙ c.in-Some.is)

pub move_member-requires-clause-there : goal.move_member-requires-clause-there
move_member-requires-clause-there c = find_kept _ c.args.tag c.args.self.now.kept c.self.invariant.sorted (ap (λ (s : Classes). s.kept) c.self.view_is) c.requires.kept

pub move_member-requires-clause-small : goal.move_member-requires-clause-small
move_member-requires-clause-small c =
    small_number _ _ _ c.args.prefix _ c.args.tag c.self.invariant (sym c.put-before.ensures.value ∙ c.in-Some.is) c.put-before.ensures.map (subst (λ n. n < 2 ^ 64) c.len.ensures c.len.type_inv)

pub invariant_of-self : goal.invariant_of-self
invariant_of-self c = after_put _ _ _ _ c.args.prefix _ c.args.tag c.self.invariant (sym c.put-before.ensures.value ∙ c.in-Some.is) c.put-before.ensures.map c.move_member.ensures.counts

-- it had none
pub raise-requires-clause-there : goal.raise-requires-clause-there
raise-requires-clause-there c = find_kept _ c.args.tag c.args.self.now.kept c.self.invariant.sorted (ap (λ (s : Classes). s.kept) c.self.view_is) c.requires.kept

pub raise-requires-clause-small : goal.raise-requires-clause-small
raise-requires-clause-small c =
    let small = small_number _ _ _ c.args.prefix _ c.args.tag c.self.invariant (sym c.put-before.ensures.value ∙ c.in-None.is) c.put-before.ensures.map (subst (λ n. n < 2 ^ 64) c.len.ensures c.len.type_inv) in
    omega (arith, small)

pub invariant_of-self-in-None : goal.invariant_of-self-in-None
invariant_of-self-in-None c = after_put _ _ _ _ c.args.prefix _ c.args.tag c.self.invariant (sym c.put-before.ensures.value ∙ c.in-None.is) c.put-before.ensures.map c.raise.ensures.counts
