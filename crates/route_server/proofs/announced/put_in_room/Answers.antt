use Rattle.std.proofs.Common.{◌++◌, ◌∷◌, [], List, Bool, true, false, cond, ap, sym, subst, ◌∙◌, refl, inl}
use Rattle.net_types.specs.Sets.{Member}
use Rattle.net_types.specs.declared.prefix.Prefix.{Prefix}
use Rattle.net_types.proofs.SetLemmas.{Member-append_left, Member-append_right}
use Rattle.route_server.proofs.announced.put_in_room.Goals as goal

either : (b : Bool) (xs : List Prefix) (x p : Prefix) → Member p xs → Member p (cond b (xs ++ x ∷ []) xs)
either true xs x p m = Member-append_left xs (x ∷ []) p m
either false xs x p m = m

pub returns-then-len-capacity-clause-kept : goal.returns-then-len-capacity-clause-kept
returns-then-len-capacity-clause-kept c p m = subst (Member p) (sym c.push.ensures.items) (either _ c.args.prefixes.now.items c.args.prefix p m)

pub returns-then-len-capacity-clause-there : goal.returns-then-len-capacity-clause-there
returns-then-len-capacity-clause-there c is =
    subst (Member c.args.prefix) (sym (c.push.ensures.items ∙ ap (λ b. cond b (c.args.prefixes.now.items ++ c.args.prefix ∷ []) c.args.prefixes.now.items) (sym c.is_ok.ensures.value ∙ is)))
    (Member-append_right c.args.prefixes.now.items (c.args.prefix ∷ []) c.args.prefix (inl refl))
