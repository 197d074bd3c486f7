use Rattle.std.proofs.Common.{◌≡◌, ap, ◌∙◌, sym, nat_eq, ◌||◌, List, false, subst, ◌++◌, ◌∷◌, [], map}
use Rattle.std.specs.List.{list_any}
use Rattle.std.specs.Cmp.{nat_eq_equiv}
use Rattle.std.specs.Cmp.Lexicographic.{nat_list_eq_equiv}
use Rattle.net_types.specs.Octets.{same_octets}
use Rattle.net_types.specs.declared.route.PortInfo.{PortInfo}
use Rattle.registry.specs.Owners.{AreOwners}
use Rattle.registry.proofs.IndexLemmas.{keyed_is, any_three, all_false, AllFalse, more_owners}
use Rattle.registry.proofs.ports.Ports.add.Goals as goal
use Rattle.std.proofs.lemmas.List.{map_push}

none_of : (ps now : List PortInfo) (p : PortInfo) → ps ≡ now → list_any (λ (q : PortInfo). nat_eq q.number.0 p.number.0 || nat_eq q.ip.0 p.ip.0 || same_octets q.mac.0 p.mac.0) now ≡ false
    → AllFalse (list_any (λ (q : PortInfo). nat_eq q.number.0 p.number.0) ps) (list_any (λ (q : PortInfo). nat_eq q.ip.0 p.ip.0) ps) (list_any (λ (q : PortInfo). same_octets q.mac.0 p.mac.0) ps)
none_of ps now p is none =
    let f : PortInfo → _ = λ q. nat_eq q.number.0 p.number.0 in
    let g : PortInfo → _ = λ q. nat_eq q.ip.0 p.ip.0 in
    let h : PortInfo → _ = λ q. same_octets q.mac.0 p.mac.0 in
    all_false _ _ _ (sym (any_three f g h ps) ∙ ap (list_any (λ q. f q || g q || h q)) is ∙ none)

pub put-requires-clause-absent : goal.put-requires-clause-absent
put-requires-clause-absent c =
    ap (list_any (nat_eq c.args.port.number.0)) c.reserve-2.ensures.keys
    ∙ keyed_is nat_eq nat_eq_equiv c.args.port.number.0 (λ (q : PortInfo). q.number.0) c.self.inside.numbers.keys c.self.inside.list.items c.self.invariant.numbers_are
    ∙ (none_of c.self.inside.list.items _ c.args.port c.self.view_is c.requires).one

pub put-requires-2-clause-absent : goal.put-requires-2-clause-absent
put-requires-2-clause-absent c =
    ap (list_any (nat_eq c.args.port.ip.0)) c.reserve-3.ensures.keys
    ∙ keyed_is nat_eq nat_eq_equiv c.args.port.ip.0 (λ (q : PortInfo). q.ip.0) c.self.inside.addresses.keys c.self.inside.list.items c.self.invariant.addresses_are
    ∙ (none_of c.self.inside.list.items _ c.args.port c.self.view_is c.requires).two

pub put-requires-3-clause-absent : goal.put-requires-3-clause-absent
put-requires-3-clause-absent c =
    ap (list_any (same_octets c.args.port.mac.0)) c.reserve-4.ensures.keys
    ∙ keyed_is same_octets nat_list_eq_equiv c.args.port.mac.0 (λ (q : PortInfo). q.mac.0) c.self.inside.macs.keys c.self.inside.list.items c.self.invariant.macs_are
    ∙ (none_of c.self.inside.list.items _ c.args.port c.self.view_is c.requires).three

pub invariant_of-self-2 : goal.invariant_of-self-2
invariant_of-self-2 c =
    let ps : List PortInfo = c.self.inside.list.items in
    let p : PortInfo = c.args.port in
    let k = c.self.invariant in
    let items : c.push.new.self.items ≡ ps ++ p ∷ [] = c.in-Ok.ensures.items ∙ ap (λ qs. qs ++ p ∷ []) c.reserve.ensures.items in
    record {
      numbers_are = c.put.ensures.last ∙ ap (λ ns. ns ++ p.number.0 ∷ []) (c.reserve-2.ensures.keys ∙ k.numbers_are) ∙ sym (map_push (λ (q : PortInfo). q.number.0) ps p) ∙ ap (map (λ (q : PortInfo). q.number.0)) (sym items);
      addresses_are = c.put-2.ensures.last ∙ ap (λ ns. ns ++ p.ip.0 ∷ []) (c.reserve-3.ensures.keys ∙ k.addresses_are) ∙ sym (map_push (λ (q : PortInfo). q.ip.0) ps p) ∙ ap (map (λ (q : PortInfo). q.ip.0)) (sym items);
      macs_are = c.put-3.ensures.last ∙ ap (λ ns. ns ++ p.mac.0 ∷ []) (c.reserve-4.ensures.keys ∙ k.macs_are) ∙ sym (map_push (λ (q : PortInfo). q.mac.0) ps p) ∙ ap (map (λ (q : PortInfo). q.mac.0)) (sym items);
      distinct = c.put-2.ensures.unique;
      owners = subst (AreOwners c.add.new.owners.items) (sym items) (more_owners c.self.inside.owners.items c.add.new.owners.items ps p k.owners c.in_ok-add.ensures.numbers c.in_ok-add.ensures.first);
    }
