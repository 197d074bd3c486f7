-- What the operations make of a packet, and which cubes and assignments stand in them.
use Rattle.std.proofs.Common.{◌≡◌, ℕ, ◌⊎◌, cond, Option, Some, None, unwrap_or, List, [], ◌∷◌, ◌++◌, map, refl, inl, inr, sym, ap, ◌∙◌, subst}
use Rattle.std.specs.Option.{option_map, option_or}
use Rattle.net_types.specs.declared.address.Ip.{Ip}
use Rattle.net_types.specs.declared.cube.Cube.{Cube}
use Rattle.net_types.specs.declared.headers.Headers.{Headers}
use Rattle.net_types.specs.declared.headers.Loc.{Loc}
use Rattle.net_types.specs.declared.headers.Loc.TheVariants.{Stay, To, Out, Nowhere}
use Rattle.net_types.specs.declared.headers.Assign.{Assign}
use Rattle.net_types.specs.Headers.{apply, followed_by, arrived, no_change}
use Rattle.net_types.specs.Cubes.{has, everything}
use Rattle.net_types.specs.Meets.{IsMeet, behind}
use Rattle.net_types.specs.Sets.{Member, SameMembers, union_over}
use Rattle.net_types.proofs.MeetLemmas.{IsMeet-meet, IsMeet-member, IsMeet-append_left, IsMeet-append_right, behind-Member}
use Rattle.net_types.proofs.SetLemmas
use Rattle.classifier.specs.declared.line.Line.{Line}
use Rattle.classifier.specs.declared.join.Join.{Join}
use Rattle.classifier.specs.declared.join.Join.TheVariants.{Union, Otherwise}
use Rattle.classifier.specs.Items.{Item}
use Rattle.classifier.specs.Lines.{tested, turned, negated, add_lines, joined, line, product, after, composed}
use Rattle.classifier.specs.Meaning.{only_where_none, otherwise, Follows, given, carried, meaning, cubes_of, assigns_of, decide}
use Rattle.classifier.proofs.DecideLemmas.{or_assoc, Given, given_is, decide-add_lines, decide-product, decide-composed, gathered, same_add_all, same_gathered}
use Rattle.std.proofs.lemmas.Bool.{cases_Bool}
use Rattle.net_types.proofs.CubeLemmas.{has-everything}
use Rattle.net_types.specs.Policies.{Packet}
use Rattle.classifier.proofs.TightLemmas.{decide-negated}
use Rattle.classifier.proofs.LineLemmas.{EachLine, each-add_lines, each-product, each-composed}

-- ---- meaning

given-product : (join : Join) (xs ys : List Line) (h : Headers) → Given xs h → Given ys h → given (add_lines [] (product join xs ys)) h ≡ joined join (given xs h) (given ys h)
given-product join xs ys h g k =
    ap (λ o. unwrap_or o []) (decide-add_lines [] (product join xs ys) h ∙ decide-product join xs ys h (given ys h) (given_is ys h k) ∙ ap (option_map (λ first. joined join first (given ys h))) (given_is xs h g))

-- the packets of both
pub meaning-union : (xs ys : List Line) (h : Headers) (l : Loc) → Given xs h → Given ys h → SameMembers (meaning (add_lines [] (product Union xs ys)) h l) (meaning xs h l ++ meaning ys h l)
meaning-union xs ys h l g k =
    SetLemmas.same_trans (SetLemmas.same_eq (ap (map (carried h l)) (given-product Union xs ys h g k)))
    (SetLemmas.same_trans (SetLemmas.same_map (carried h l) (same_add_all (given xs h) (given ys h))) (SetLemmas.same_eq (SetLemmas.map-append (carried h l) (given xs h) (given ys h))))

map-otherwise : {A B : Type 0} (f : A → B) (xs ys : List A) → map f (otherwise xs ys) ≡ otherwise (map f xs) (map f ys)
map-otherwise f [] ys = refl
map-otherwise f (x ∷ xs) ys = refl

joined-otherwise : (xs ys : List Item) → joined Otherwise xs ys ≡ otherwise xs ys
joined-otherwise [] ys = refl
joined-otherwise (x ∷ xs) ys = refl

pub meaning-otherwise : (xs ys : List Line) (h : Headers) (l : Loc) → Given xs h → Given ys h → meaning (add_lines [] (product Otherwise xs ys)) h l ≡ otherwise (meaning xs h l) (meaning ys h l)
meaning-otherwise xs ys h l g k =
    ap (map (carried h l)) (given-product Otherwise xs ys h g k ∙ joined-otherwise (given xs h) (given ys h)) ∙ map-otherwise (carried h l) (given xs h) (given ys h)

-- one assignment and then another

unwrap-twice : {A : Type 0} (n m : Option A) (x : A) → unwrap_or (option_or n m) x ≡ unwrap_or n (unwrap_or m x)
unwrap-twice (Some v) m x = refl
unwrap-twice None m x = refl

arrived-twice : (l m n : Loc) → arrived l (arrived m n) ≡ arrived (arrived l m) n
arrived-twice l m Stay = refl
arrived-twice l m (To who) = refl
arrived-twice l m (Out port) = refl
arrived-twice l m Nowhere = refl

abbrev headers : Headers → Ip → Ip → Option ℕ → Option ℕ → Headers
headers h src dst sport dport = record { inport = h.inport; src = src; dst = dst; proto = h.proto; sport = sport; dport = dport }

pub apply-followed_by : (m n : Assign) (h : Headers) → apply (followed_by m n) h ≡ apply n (apply m h)
apply-followed_by m n h =
    ap (λ x. headers h x (unwrap_or (option_or n.dst m.dst) h.dst) (option_or (option_or n.sport m.sport) h.sport) (option_or (option_or n.dport m.dport) h.dport)) (unwrap-twice n.src m.src h.src)
    ∙ ap (λ x. headers h (unwrap_or n.src (unwrap_or m.src h.src)) x (option_or (option_or n.sport m.sport) h.sport) (option_or (option_or n.dport m.dport) h.dport)) (unwrap-twice n.dst m.dst h.dst)
    ∙ ap (λ x. headers h (unwrap_or n.src (unwrap_or m.src h.src)) (unwrap_or n.dst (unwrap_or m.dst h.dst)) x (option_or (option_or n.dport m.dport) h.dport)) (or_assoc n.sport m.sport h.sport)
    ∙ ap (λ x. headers h (unwrap_or n.src (unwrap_or m.src h.src)) (unwrap_or n.dst (unwrap_or m.dst h.dst)) (option_or n.sport (option_or m.sport h.sport)) x) (or_assoc n.dport m.dport h.dport)

carried-after : (h : Headers) (l : Loc) (first next : Item) → carried h l (after first next) ≡ carried (apply first.0 h) (arrived l first.1) next
carried-after h l first next =
    ap (λ x. let p : Packet = (x, arrived l (arrived first.1 next.1)) in p) (apply-followed_by first.0 next.0 h)
    ∙ ap (λ x. let p : Packet = (apply next.0 (apply first.0 h), x) in p) (arrived-twice l first.1 next.1)

-- the packets that the second makes of those of the first
pub meaning-composed : (xs ys : List Line) → ((h : Headers) → Given xs h) → ((h : Headers) → Given ys h) → (h : Headers) (l : Loc) → SameMembers (meaning (add_lines [] (composed xs ys)) h l) (union_over (λ packet. meaning ys packet.0 packet.1) (meaning xs h l))
meaning-composed xs ys first_all next_all h l =
    let firsts = given xs h in
    let made : given (add_lines [] (composed xs ys)) h ≡ gathered ys h [] (given xs h) =
    ap (λ o. unwrap_or o []) (decide-add_lines [] (composed xs ys) h ∙ decide-composed ys next_all xs h ∙ ap (option_map (gathered ys h [])) (given_is xs h (first_all h))) in
    SetLemmas.same_trans (SetLemmas.same_eq (ap (map (carried h l)) made))
    (SetLemmas.same_trans (SetLemmas.same_map (carried h l) (same_gathered ys h [] (given xs h)))
    (SetLemmas.same_eq (
    SetLemmas.map-union (carried h l) (λ first. map (after first) (given ys (apply first.0 h))) (given xs h)
    ∙ SetLemmas.union_ext (λ first. map (carried h l) (map (after first) (given ys (apply first.0 h)))) (λ first. meaning ys (apply first.0 h) (arrived l first.1)) (given xs h)
    (λ first. SetLemmas.map-map (carried h l) (after first) (carried (apply first.0 h) (arrived l first.1)) (carried-after h l first) (given ys (apply first.0 h)))
    ∙ sym (SetLemmas.union-map (λ (packet : Packet). meaning ys packet.0 packet.1) (carried h l) (given xs h)))))

-- ---- cubes

pub cube-stands : (xs : List Line) (x : Line) → Member x xs → Member x.cube (cubes_of xs)
cube-stands xs x h = SetLemmas.Member-map (λ z. z.cube) xs x h

each-cube : (P : Cube → Type 0) (xs : List Line) → EachLine (λ z. P z.cube) xs → (c : Cube) → Member c (cubes_of xs) → P c
each-cube P xs f c h = let i = SetLemmas.map-Member (λ z. z.cube) xs c h in subst P (sym i.is) (f i.of i.stands)

-- each cube of a product is a meet of the cubes of both
pub cubes-product : (join : Join) (xs ys : List Line) (c : Cube) → Member c (cubes_of (add_lines [] (product join xs ys))) → IsMeet (cubes_of xs ++ cubes_of ys) c
cubes-product join xs ys =
    let atoms = cubes_of xs ++ cubes_of ys in
    let P : Line → Type 0 = λ z. IsMeet (cubes_of xs ++ cubes_of ys) z.cube in
    each-cube (IsMeet (cubes_of xs ++ cubes_of ys)) (add_lines [] (product join xs ys))
    (each-add_lines (λ z. IsMeet (cubes_of xs ++ cubes_of ys) z.cube) [] (product join xs ys) (λ z h. elim h [ ]) (each-product (λ z. IsMeet (cubes_of xs ++ cubes_of ys) z.cube) join xs ys (λ x y c h k e.
    IsMeet-meet (cubes_of xs ++ cubes_of ys) x.cube y.cube c
    (IsMeet-append_left (cubes_of xs) (cubes_of ys) x.cube (IsMeet-member (cubes_of xs) x.cube (cube-stands xs x h)))
    (IsMeet-append_right (cubes_of xs) (cubes_of ys) y.cube (IsMeet-member (cubes_of ys) y.cube (cube-stands ys y k))) e)))

-- the assignment of a result stands among the lines' assignments
pub assign-stands : (xs : List Line) (x : Line) (item : Item) → Member x xs → Member item x.results → Member item.0 (assigns_of xs)
assign-stands xs x item h k = SetLemmas.Member-union (λ (z : Line). map (λ (i : Item). i.0) z.results) xs x item.0 h (SetLemmas.Member-map (λ (i : Item). i.0) x.results item k)

-- each cube of a composition is a meet of the cubes of the first and of those of the second behind assignments of the first
pub cubes-composed : (xs ys : List Line) (c : Cube) → Member c (cubes_of (add_lines [] (composed xs ys))) → IsMeet (cubes_of xs ++ behind (assigns_of xs) (cubes_of ys)) c
cubes-composed xs ys =
    let P : Line → Type 0 = λ z. IsMeet (cubes_of xs ++ behind (assigns_of xs) (cubes_of ys)) z.cube in
    each-cube (IsMeet (cubes_of xs ++ behind (assigns_of xs) (cubes_of ys))) (add_lines [] (composed xs ys))
    (each-add_lines P [] (composed xs ys) (λ z h. elim h [ ]) (each-composed P P xs ys
    (λ z w c p q e. IsMeet-meet (cubes_of xs ++ behind (assigns_of xs) (cubes_of ys)) z.cube w.cube c p q e)
    (λ x first y c s h k e. IsMeet-append_right (cubes_of xs) (behind (assigns_of xs) (cubes_of ys)) c
    (IsMeet-member (behind (assigns_of xs) (cubes_of ys)) c (behind-Member (assigns_of xs) (cubes_of ys) first.0 y.cube c (assign-stands xs x first s h) (cube-stands ys y k) e)))
    (λ x h. IsMeet-append_left (cubes_of xs) (behind (assigns_of xs) (cubes_of ys)) x.cube (IsMeet-member (cubes_of xs) x.cube (cube-stands xs x h)))))

-- ---- assignments

pub each-assign : (P : Assign → Type 0) (xs : List Line) → EachLine (λ z. (item : Item) → Member item z.results → P item.0) xs → (m : Assign) → Member m (assigns_of xs) → P m
each-assign P xs f m h =
    let s = SetLemmas.union-Member (λ (z : Line). map (λ (i : Item). i.0) z.results) xs m h in
    let i = SetLemmas.map-Member (λ (i : Item). i.0) s.of.results m s.gives in
    subst P (sym i.is) (f s.of s.stands i.of i.stands)

pub joined-cases : (join : Join) (xs ys : List Item) (i : Item) → Member i (joined join xs ys) → Member i xs ⊎ Member i ys
joined-cases Union xs ys i h = SetLemmas.Member-append_cases xs ys i ((same_add_all xs ys).onto i h)
joined-cases Otherwise [] ys i h = inr h
joined-cases Otherwise (x ∷ xs) ys i h = inl h

pub assigns-product : (join : Join) (xs ys : List Line) (m : Assign) → Member m (assigns_of (add_lines [] (product join xs ys))) → Member m (assigns_of xs ++ assigns_of ys)
assigns-product join xs ys =
    let P : Line → Type 0 = λ z. (item : Item) → Member item z.results → Member item.0 (assigns_of xs ++ assigns_of ys) in
    each-assign (λ m. Member m (assigns_of xs ++ assigns_of ys)) (add_lines [] (product join xs ys))
    (each-add_lines P [] (product join xs ys) (λ z h. elim h [ ]) (each-product P join xs ys (λ x y c h k e item stands.
    elim (joined-cases join x.results y.results item stands) [
      | inl in_x ↦ SetLemmas.Member-append_left (assigns_of xs) (assigns_of ys) item.0 (assign-stands xs x item h in_x)
      | inr in_y ↦ SetLemmas.Member-append_right (assigns_of xs) (assigns_of ys) item.0 (assign-stands ys y item k in_y)
    ])))

pub assigns-composed : (xs ys : List Line) (m : Assign) → Member m (assigns_of (add_lines [] (composed xs ys))) → Follows (assigns_of xs) (assigns_of ys) m
assigns-composed xs ys =
    let P : Line → Type 0 = λ z. (item : Item) → Member item z.results → Follows (assigns_of xs) (assigns_of ys) item.0 in
    each-assign (Follows (assigns_of xs) (assigns_of ys)) (add_lines [] (composed xs ys))
    (each-add_lines P [] (composed xs ys) (λ z h. elim h [ ]) (each-composed P P xs ys
    (λ z w c p q e item stands. elim (SetLemmas.Member-append_cases z.results w.results item ((same_add_all z.results w.results).onto item stands)) [ inl k ↦ p item k | inr k ↦ q item k ])
    (λ x first y c s h k e item stands.
    let i = SetLemmas.map-Member (after first) y.results item ((same_add_all [] (map (after first) y.results)).onto item stands) in
    record { before = first.0; next = i.of.0; before_stands = assign-stands xs x first s h; next_stands = assign-stands ys y i.of k i.stands; is = ap (λ (j : Item). j.0) i.is })
    (λ x h item stands. elim stands [ ])))

-- ---- the simple ones

pub meaning-same : (xs ys : List Line) (h : Headers) (l : Loc) → decide xs h ≡ decide ys h → meaning xs h l ≡ meaning ys h l
meaning-same xs ys h l e = ap (λ o. map (carried h l) (unwrap_or o [])) e

pub meaning-all : (items : List Item) (h : Headers) (l : Loc) → meaning (line items everything ∷ []) h l ≡ map (carried h l) items
meaning-all items h l = ap (λ b. map (carried h l) (unwrap_or (cond b (Some items) None) [])) (has-everything h)

pub meaning-tested : (c : Cube) (h : Headers) (l : Loc) → meaning (add_lines [] (tested c)) h l ≡ cond (has c h) ((h, l) ∷ []) []
meaning-tested c h l =
    meaning-same (add_lines [] (tested c)) (tested c) h l (decide-add_lines [] (tested c) h)
    ∙ elim (cases_Bool (has c h)) [
      | inl here ↦ rw here refl
      | inr apart ↦ rw apart (elim (cases_Bool (has everything h)) [ inl e ↦ rw e refl | inr e ↦ rw e refl ])
    ]

pub cubes-tested : (c x : Cube) → Member x (cubes_of (add_lines [] (tested c))) → IsMeet (c ∷ []) x
cubes-tested c = each-cube (IsMeet (c ∷ [])) (add_lines [] (tested c)) (each-add_lines (λ z. IsMeet (c ∷ []) z.cube) [] (tested c) (λ z h. elim h [ ]) (λ z h. elim h [
  | inl e ↦ subst (λ (w : Line). IsMeet (c ∷ []) w.cube) (sym e) (IsMeet-member (c ∷ []) c (inl refl))
  | inr k ↦ elim k [
    | inl e ↦ subst (λ (w : Line). IsMeet (c ∷ []) w.cube) (sym e) (inl refl)
    | inr none ↦ elim none [ ]
  ]
]))

-- each result is the packet as it is
abbrev OnlyUnchanged : Line → Type 0
OnlyUnchanged z = (item : Item) → Member item z.results → item.0 ≡ no_change

pub assigns-tested : (c : Cube) (m : Assign) → Member m (assigns_of (add_lines [] (tested c))) → m ≡ no_change
assigns-tested c = each-assign (λ m. m ≡ no_change) (add_lines [] (tested c)) (each-add_lines OnlyUnchanged [] (tested c) (λ z h. elim h [ ]) (λ z h. elim h [
  | inl e ↦ subst OnlyUnchanged (sym e) (λ i k. elim k [ inl f ↦ ap (λ (j : Item). j.0) f | inr none ↦ elim none [ ] ])
  | inr k ↦ elim k [
    | inl e ↦ subst OnlyUnchanged (sym e) (λ i f. elim f [ ])
    | inr none ↦ elim none [ ]
  ]
]))

map-turned : (h : Headers) (l : Loc) (items : List Item) → map (carried h l) (turned items) ≡ only_where_none (map (carried h l) items) (h, l)
map-turned h l [] = refl
map-turned h l (x ∷ xs) = refl

pub meaning-negated : (xs : List Line) (h : Headers) (l : Loc) → Given xs h → meaning (negated xs) h l ≡ only_where_none (meaning xs h l) (h, l)
meaning-negated xs h l g =
    ap (λ o. map (carried h l) (unwrap_or o [])) (decide-negated xs h ∙ ap (option_map turned) (given_is xs h g)) ∙ map-turned h l (given xs h)

each-negated : (xs : List Line) → EachLine OnlyUnchanged (negated xs)
each-negated [] z h = elim h [ ]
each-negated (x ∷ xs) z (inl e) = subst OnlyUnchanged (sym e) (of x.results)
  where
    of : (items : List Item) (i : Item) → Member i (turned items) → i.0 ≡ no_change
    of [] i (inl f) = ap (λ (j : Item). j.0) f
    of [] i (inr none) = elim none [ ]
    of (y ∷ ys) i h = elim h [ ]
each-negated (x ∷ xs) z (inr h) = each-negated xs z h

pub assigns-negated : (xs : List Line) (m : Assign) → Member m (assigns_of (negated xs)) → m ≡ no_change
assigns-negated xs = each-assign (λ m. m ≡ no_change) (negated xs) (each-negated xs)
