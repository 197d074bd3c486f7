-- The pairs of a table that are of a port are found one after another, by the least pair past another one.
use Rattle.std.proofs.Common.{◌≡◌, ◌<◌, ◌≤◌, Bool, true, false, cond, ◌&&◌, nat_eq, List, [], ◌∷◌, filter, sym, ap, ◌∙◌, refl, inl, inr, arith}
use Rattle.std.specs.Prelude.{◌⊎◌, nat_lt, Option, Some, None, find, is_some}
use Rattle.std.specs.FinMap.{FinMap, contains_key-keys, get, keys, nat_cmp-IsAntisymmetric}
use Rattle.std.specs.Cmp.{nat_cmp_is}
use Rattle.std.specs.Option.{option_map_or}
use Rattle.std.specs.Ordering.{is_lt, nat_cmp, ordering_then}
use Rattle.std.specs.declared.cmp.Ordering.{Ordering}
use Rattle.std.specs.declared.cmp.Ordering.TheVariants.{Less, Equal, Greater}
use Rattle.std.proofs.lemmas.Bool.{and_from, and_parts, eq-eqb, eqb-true, false≢true, false_from_ne_true, lt-ltb, ltb-true}
use Rattle.events.specs.State.{State}
use Rattle.exchange_laws.proofs.Lists.{numbers_range}
use Rattle.exchange_laws.proofs.LivePairs.{live_tag}
use Rattle.exchange_laws.proofs.OwnHops.{numbered_port}
use Rattle.exchange_laws.specs.Steady.{IsSteady, PortsDiffer}
use Rattle.fast_path.proofs.TagOrder.{less_from}
use Rattle.net_types.proofs.FindLemmas.{find-IsFound, find_none}
use Rattle.net_types.proofs.OrderLemmas.{pairs_total}
use Rattle.net_types.proofs.OrderedLemmas.{member_any, ordered_is}
use Rattle.net_types.proofs.RisingLemmas.{Member-filter, before, filter-IsRising, filter-Member, keys-IsRising}
use Rattle.net_types.proofs.SetLemmas.{Member-map, Member-union, map-Member, union-Member}
use Rattle.net_types.proofs.TieLemmas.{pair_tie}
use Rattle.net_types.specs.Keys.{pair_cmp}
use Rattle.net_types.specs.Maps.{ordered}
use Rattle.net_types.specs.Sets.{IsRising, Member, union_over}
use Rattle.net_types.specs.declared.address.Pid.{Pid}
use Rattle.net_types.specs.declared.address.PortNo.{PortNo}
use Rattle.net_types.specs.declared.address.Tag.{Tag}
use Rattle.net_types.specs.declared.route.PortInfo.{PortInfo}
use Rattle.net_types.specs.declared.rule.Pair.{Pair}
use Rattle.net_types.specs.declared.rule.Rule.{Rule}
use Rattle.registry.specs.Registered.{Registered, port_of, ports_of}
use Rattle.exchange_core.specs.Rebuilt.{AreTagged, is_at, is_from, is_later}
use Rattle.std.proofs.lemmas.Option.{same_Some}
use Rattle.fast_path.proofs.CommittedMaps.{filter_alike}

-- ---- the order of pairs

-- a pair that comes before another has a lesser port, or the same port and a lesser tag
lesser : (a b : Pair) → before pair_cmp a b ≡ true → (a.port.0 < b.port.0) ⊎ ((a.port.0 ≡ b.port.0) × (a.tag.0 < b.tag.0))
lesser a b e = by (nat_cmp a.port.0 b.port.0) refl e
  where
    by : (o : Ordering) → nat_cmp a.port.0 b.port.0 ≡ o → is_lt (ordering_then o (nat_cmp a.tag.0 b.tag.0)) ≡ true → (a.port.0 < b.port.0) ⊎ ((a.port.0 ≡ b.port.0) × (a.tag.0 < b.tag.0))
    by Less is e = inl (less_from a.port.0 b.port.0 (ap is_lt is))
    by Equal is e = inr (nat_cmp-IsAntisymmetric a.port.0 b.port.0 is, less_from a.tag.0 b.tag.0 e)
    by Greater is e = absurd (false≢true e)

-- of two pairs at one port that with the lesser tag comes first
comes_first : (a b : Pair) → a.port.0 ≡ b.port.0 → a.tag.0 < b.tag.0 → before pair_cmp a b ≡ true
comes_first a b same less =
    let ports : Equal ≡ nat_cmp a.port.0 b.port.0 = nat_cmp_is a.port.0 b.port.0 Equal same in
    let tags : Less ≡ nat_cmp a.tag.0 b.tag.0 = nat_cmp_is a.tag.0 b.tag.0 Less less in
    ap (λ o. is_lt (ordering_then o (nat_cmp a.tag.0 b.tag.0))) (sym ports) ∙ ap is_lt (sym tags)

-- ---- later pairs of a port

-- what a later pair of a port is
pub record IsLater (last pair : Pair) : Type 0 where
  pub port : pair.port.0 ≡ last.port.0
  pub tag : last.tag.0 < pair.tag.0

later_is : (last pair : Pair) → is_later last pair ≡ true → IsLater last pair
later_is last pair e =
    let parts = and_parts (nat_eq pair.port.0 last.port.0) (nat_lt last.tag.0 pair.tag.0) e in
    record { port = eqb-true pair.port.0 last.port.0 parts.0; tag = ltb-true last.tag.0 pair.tag.0 parts.1 }

is_later_from : (last pair : Pair) → pair.port.0 ≡ last.port.0 → last.tag.0 < pair.tag.0 → is_later last pair ≡ true
is_later_from last pair port tag = and_from (nat_eq pair.port.0 last.port.0) (nat_lt last.tag.0 pair.tag.0) (eq-eqb pair.port.0 last.port.0 port) (lt-ltb last.tag.0 pair.tag.0 tag)

later_past : (last pair : Pair) → is_later last pair ≡ true → before pair_cmp last pair ≡ true
later_past last pair e = let is = later_is last pair e in comes_first last pair (sym is.port) is.tag

-- no pair that comes before another is later than it, and none at another port
not_later : (last pair : Pair) → (IsLater last pair → ⊥) → is_later last pair ≡ false
not_later last pair isnt = false_from_ne_true (is_later last pair) (λ e. isnt (later_is last pair e))

-- what comes after a later pair is later than both or than none
alike : (last p y : Pair) → IsLater last p → before pair_cmp p y ≡ true → is_later last y ≡ is_later p y
alike last p y is after = elim (lesser p y after) [
  | inl port ↦ not_later last y (λ l. let same : y.port.0 ≡ last.port.0 = l.port in let here : p.port.0 ≡ last.port.0 = is.port in absurd (omega (arith, same, here, port)))
      ∙ sym (not_later p y (λ l. let same : y.port.0 ≡ p.port.0 = l.port in absurd (omega (arith, same, port))))
  | inr both ↦
      let same : p.port.0 ≡ y.port.0 = both.0 in
      let less : p.tag.0 < y.tag.0 = both.1 in
      let here : p.port.0 ≡ last.port.0 = is.port in
      let below : last.tag.0 < p.tag.0 = is.tag in
      is_later_from last y (sym same ∙ here) (omega (arith, less, below)) ∙ sym (is_later_from p y (sym same) less)
]

-- ---- one after another

-- the first later pair, and those that are later than it
pub one_later : (last p : Pair) (ks : List Pair) → IsRising (before pair_cmp) ks → find (is_later last) ks ≡ Some p → filter (is_later last) ks ≡ p ∷ filter (is_later p) ks
one_later last p [] rises e = absurd (cc)
one_later last p (x ∷ ks) rises e =
    elim (is_later last x) as (λ b. is_later last x ≡ b → cond b (Some x) (find (is_later last) ks) ≡ Some p → cond b (x ∷ filter (is_later last) ks) (filter (is_later last) ks) ≡ p ∷ filter (is_later p) (x ∷ ks)) [
      | true ↦ λ here is.
          let same : x ≡ p = same_Some x p is in
          let itself : is_later p x ≡ false = not_later p x (λ l. let tag : p.tag.0 < x.tag.0 = l.tag in let one : x.tag.0 ≡ p.tag.0 = ap (λ (y : Pair). y.tag.0) same in absurd (omega (arith, tag, one))) in
          (λ i. same i ∷ filter (is_later last) ks)
          ∙ ap (λ ys. p ∷ ys) (filter_alike (is_later last) (is_later p) ks (λ y m. alike last p y (later_is last p (ap (is_later last) (sym same) ∙ here)) (ap (λ z. before pair_cmp z y) (sym same) ∙ rises.0 y m)))
          ∙ ap (λ b. p ∷ cond b (x ∷ filter (is_later p) ks) (filter (is_later p) ks)) (sym itself)
      | false ↦ λ here is.
          let found = find-IsFound (is_later last) ks p is in
          let first : is_later p x ≡ false = not_later p x (λ l. elim (lesser x p (rises.0 p found.stands)) [
            | inl port ↦ let same : x.port.0 ≡ p.port.0 = l.port in absurd (omega (arith, same, port))
            | inr both ↦ let less : p.tag.0 < x.tag.0 = l.tag in let more : x.tag.0 < p.tag.0 = both.1 in absurd (omega (arith, less, more))
          ]) in
          one_later last p ks rises.1 is ∙ ap (λ b. p ∷ cond b (x ∷ filter (is_later p) ks) (filter (is_later p) ks)) (sym first)
    ] refl e

-- where none is found, none is left
pub none_later : {A : Type 0} (test : A → Bool) (ks : List A) → find test ks ≡ None → filter test ks ≡ []
none_later test [] e = refl
none_later test (x ∷ ks) e = elim (test x) as (λ b. cond b (Some x) (find test ks) ≡ None → cond b (x ∷ filter test ks) (filter test ks) ≡ []) [
  | true ↦ λ is. absurd (cc)
  | false ↦ λ is. none_later test ks is
] e

-- ---- the least pair past another one

-- no member passes where none is found
none_passes : {A : Type 0} (test : A → Bool) (xs : List A) → find test xs ≡ None → (x : A) → Member x xs → test x ≡ false
none_passes test [] e x m = elim m [ ]
none_passes test (y ∷ xs) e x m = elim (test y) as (λ b. test y ≡ b → cond b (Some y) (find test xs) ≡ None → test x ≡ false) [
  | true ↦ λ here is. absurd (cc)
  | false ↦ λ here is. elim m [
    | inl same ↦ ap test same ∙ here
    | inr later ↦ none_passes test xs is x later
  ]
] refl e

pub nothing_past : (last : Pair) (ks : List Pair) → find (before pair_cmp last) ks ≡ None → find (is_later last) ks ≡ None
nothing_past last ks none = find_none (is_later last) ks (λ y m. not_later last y (λ l. false≢true (sym (none_passes (before pair_cmp last) ks none y m) ∙ comes_first last y (sym l.port) l.tag)))

-- it is the first later pair where it is at the same port
pub same_port : (last p : Pair) (ks : List Pair) → find (before pair_cmp last) ks ≡ Some p → p.port.0 ≡ last.port.0 → find (is_later last) ks ≡ Some p
same_port last p [] e port = absurd (cc)
same_port last p (x ∷ ks) e port =
    elim (before pair_cmp last x) as (λ b. before pair_cmp last x ≡ b → cond b (Some x) (find (before pair_cmp last) ks) ≡ Some p → cond (is_later last x) (Some x) (find (is_later last) ks) ≡ Some p) [
      | true ↦ λ here is.
          let same : x ≡ p = same_Some x p is in
          let one : x.port.0 ≡ last.port.0 = ap (λ (y : Pair). y.port.0) same ∙ port in
          let later : is_later last x ≡ true = elim (lesser last x here) [
            | inl less ↦ absurd (omega (arith, less, one))
            | inr both ↦ is_later_from last x one both.1
          ] in
          ap (λ b. cond b (Some x) (find (is_later last) ks)) later ∙ ap Some same
      | false ↦ λ here is.
          ap (λ b. cond b (Some x) (find (is_later last) ks)) (not_later last x (λ l. false≢true (sym here ∙ comes_first last x (sym l.port) l.tag)))
          ∙ same_port last p ks is port
    ] refl e

-- and where it is at another port there is no later pair
pub other_port : (last p : Pair) (ks : List Pair) → IsRising (before pair_cmp) ks → find (before pair_cmp last) ks ≡ Some p → (p.port.0 ≡ last.port.0 → ⊥) → find (is_later last) ks ≡ None
other_port last p [] rises e port = refl
other_port last p (x ∷ ks) rises e port =
    elim (before pair_cmp last x) as (λ b. before pair_cmp last x ≡ b → cond b (Some x) (find (before pair_cmp last) ks) ≡ Some p → cond (is_later last x) (Some x) (find (is_later last) ks) ≡ None) [
      | true ↦ λ here is.
          let same : x ≡ p = same_Some x p is in
          let one : x.port.0 ≡ p.port.0 = ap (λ (y : Pair). y.port.0) same in
          let past : last.port.0 < x.port.0 = elim (lesser last x here) [
            | inl less ↦ less
            | inr both ↦ absurd (port (sym one ∙ sym both.0))
          ] in
          find_none (is_later last) (x ∷ ks) (λ y m. not_later last y (λ l.
          let at : y.port.0 ≡ last.port.0 = l.port in
          elim m [
            | inl this ↦ let this_port : y.port.0 ≡ x.port.0 = ap (λ (z : Pair). z.port.0) this in absurd (omega (arith, at, this_port, past))
            | inr later ↦ elim (lesser x y (rises.0 y later)) [
              | inl less ↦ absurd (omega (arith, at, less, past))
              | inr both ↦ let level : x.port.0 ≡ y.port.0 = both.0 in absurd (omega (arith, at, level, past))
            ]
          ]))
      | false ↦ λ here is.
          ap (λ b. cond b (Some x) (find (is_later last) ks)) (not_later last x (λ l. false≢true (sym here ∙ comes_first last x (sym l.port) l.tag)))
          ∙ other_port last p ks rises.1 is port
    ] refl e

-- ---- all pairs of a port

module _ (table : FinMap pair_cmp (List Rule)) where
  table_key : (pair : Pair) → Member pair (keys table) → is_some (get table pair) ≡ true
  table_key pair m = contains_key-keys table pair ∙ member_any pair_cmp pairs_total pair_tie pair (keys table) m

  -- all have a greater tag than none
  pub all_later : (port : PortNo) (last : Pair) → last.port ≡ port → last.tag.0 ≡ 0 → AreTagged table → filter (is_later last) (keys table) ≡ filter (is_at port) (keys table)
  all_later port last at none tagged = filter_alike (is_later last) (is_at port) (keys table) (λ y m.
      let some : 1 ≤ y.tag.0 = tagged y (table_key y m) in
      ap (λ b. nat_eq y.port.0 last.port.0 && b) (lt-ltb last.tag.0 y.tag.0 (omega (arith, some, none)))
      ∙ both (nat_eq y.port.0 last.port.0) ∙ ap (λ (n : PortNo). nat_eq y.port.0 n.0) at)
    where
      both : (b : Bool) → (b && true) ≡ b
      both true = refl
      both false = refl

  module _ (names : Registered) (who : Pid) (apart : PortsDiffer names.ports) where
    -- the pairs of each of a participant's ports
    abbrev theirs : List Pair
    theirs = union_over (λ port. filter (is_at port) (keys table)) (ports_of names who)

    owned : PortInfo → Bool
    owned q = nat_eq q.owner.0 who.0

    onto : (pair : Pair) → Member pair (filter (is_from names who) (keys table)) → Member pair theirs
    onto pair m = let left = filter-Member (is_from names who) (keys table) pair m in by left.stands (port_of names pair.port) refl left.passes
      where
        by : Member pair (keys table) → (o : Option PortInfo) → port_of names pair.port ≡ o → option_map_or (λ (q : PortInfo). nat_eq q.owner.0 who.0) o false ≡ true → Member pair theirs
        by stands None at e = absurd (false≢true e)
        by stands (Some q) at e =
            let found = find-IsFound (λ (x : PortInfo). nat_eq x.number.0 pair.port.0) names.ports q at in
            let number : q.number.0 ≡ pair.port.0 = eqb-true q.number.0 pair.port.0 found.passes in
            let listed : Member q.number (ports_of names who) = Member-map (λ (x : PortInfo). x.number) (filter (λ (x : PortInfo). nat_eq x.owner.0 who.0) names.ports) q (Member-filter (λ (x : PortInfo). nat_eq x.owner.0 who.0) names.ports q found.stands e) in
            Member-union (λ port. filter (is_at port) (keys table)) (ports_of names who) q.number pair listed (Member-filter (is_at q.number) (keys table) pair stands (eq-eqb pair.port.0 q.number.0 (sym number)))

    back : (pair : Pair) → Member pair theirs → Member pair (filter (is_from names who) (keys table))
    back pair m =
        let source = union-Member (λ port. filter (is_at port) (keys table)) (ports_of names who) pair m in
        let here = filter-Member (is_at source.of) (keys table) pair source.gives in
        let image = map-Member (λ (x : PortInfo). x.number) (filter (λ (x : PortInfo). nat_eq x.owner.0 who.0) names.ports) source.of source.stands in
        let left = filter-Member (λ (x : PortInfo). nat_eq x.owner.0 who.0) names.ports image.of image.stands in
        let at : pair.port.0 ≡ source.of.0 = eqb-true pair.port.0 source.of.0 here.passes in
        let number : image.of.number.0 ≡ pair.port.0 = ap (λ (n : PortNo). n.0) (sym image.is) ∙ sym at in
        let found : port_of names pair.port ≡ Some image.of = numbered_port names.ports apart image.of pair.port.0 left.stands number in
        Member-filter (is_from names who) (keys table) pair here.stands (ap (λ o. option_map_or (λ (q : PortInfo). nat_eq q.owner.0 who.0) o false) found ∙ left.passes)

    -- in order they are those of the table that are the participant's
    pub theirs_are : ordered pair_cmp theirs ≡ filter (is_from names who) (keys table)
    theirs_are = sym (ordered_is pair_cmp pairs_total pair_tie (filter (is_from names who) (keys table)) theirs (filter-IsRising (before pair_cmp) (is_from names who) (keys table) (keys-IsRising pair_cmp table)) (record { onto = onto; back = back }))

-- the pairs of the table of an exchange have tags of the pool
pub table_tagged : (s : State) → IsSteady s → AreTagged s.table
table_tagged s steady pair has =
    (numbers_range (λ n. let t : Tag = record { 0 = n } in t) (λ (t : Tag). t.0) (λ n. refl) 1 s.size pair.tag (steady.pooled pair.tag (live_tag s pair (sym (steady.sound.pairs pair) ∙ has)))).0
