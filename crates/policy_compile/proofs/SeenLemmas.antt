-- Where a predicate holds depends only on the fields that it tests.
use Rattle.std.proofs.Common.{◌≡◌, ℕ, Bool, true, false, not, ◌&&◌, ◌||◌, Option, Some, None, refl, sym, ap, ◌∙◌, subst}
use Rattle.std.proofs.lemmas.Bool.{false≢true}
use Rattle.net_types.specs.declared.address.Ip.{Ip}
use Rattle.net_types.specs.declared.address.PortNo.{PortNo}
use Rattle.net_types.specs.declared.prefix.Prefix.{Prefix}
use Rattle.net_types.specs.declared.cube.Cube.{Cube}
use Rattle.net_types.specs.declared.headers.Assign.{Assign}
use Rattle.net_types.specs.Prefixes.{any_prefix, meet_prefixes}
use Rattle.net_types.specs.Cubes.{cube_of, meet_cubes, meet_values, pull_cube, pull_prefix, pull_value}
use Rattle.net_types.specs.Bits.{same_bits}
use Rattle.net_types.specs.Policies as model
use Rattle.net_types.specs.Policies.{plain, one_more, test_cube, meet_optional}
use Rattle.net_types.proofs.CubeLemmas.{any_prefix-covers}
use Rattle.policy_compile.specs.declared.seen.Fields.{Fields}
use Rattle.policy_compile.specs.Paths.{part_at, pred_at, taken_into, where_plain, within_found}
use Rattle.policy_compile.specs.Seen.{Decide, both_fields, field_tested, kept, seen, tested}

-- ---- cubes that want nothing of a field

-- outside the fields the cube takes any value
record IsFree (fields : Fields) (c : Cube) : Type 0 where
  pub src : fields.src ≡ false → c.src ≡ any_prefix
  pub dst : fields.dst ≡ false → c.dst ≡ any_prefix
  pub sport : fields.sport ≡ false → c.sport ≡ None
  pub dport : fields.dport ≡ false → c.dport ≡ None

-- a prefix of all addresses doesn't ask whether the field was set
prefix-kept : (counts : Bool) (set : Option Ip) (p : Prefix) → (counts ≡ false → p ≡ any_prefix) → pull_prefix (kept counts set) p ≡ pull_prefix set p
prefix-kept true set p any = refl
prefix-kept false None p any = refl
prefix-kept false (Some ip) p any = rw (any refl, any_prefix-covers ip) refl

-- nor does a port that may be any
value-kept : (counts : Bool) (set wanted : Option ℕ) → (counts ≡ false → wanted ≡ None) → pull_value (kept counts set) wanted ≡ pull_value set wanted
value-kept true set wanted any = refl
value-kept false None wanted any = refl
value-kept false (Some port) wanted any = rw (any refl) refl

-- so what an assignment sets of the fields pulls the cube back as the whole does
pull-seen : (fields : Fields) (c : Cube) (set : Assign) → IsFree fields c → pull_cube c (seen fields set) ≡ pull_cube c set
unfolding pull_cube
pull-seen fields c set free = rw (
  prefix-kept fields.src set.src c.src free.src,
  prefix-kept fields.dst set.dst c.dst free.dst,
  value-kept fields.sport set.sport c.sport free.sport,
  value-kept fields.dport set.dport c.dport free.dport,
) refl

-- the cube of a test is free but in the field that it is of
free-test : (test : model.Test) → IsFree (field_tested test) (test_cube test)
free-test (model.Inport port) = record { src = λ e. refl; dst = λ e. refl; sport = λ e. refl; dport = λ e. refl }
free-test (model.Src prefix) = record { src = λ e. absurd (false≢true (sym e)); dst = λ e. refl; sport = λ e. refl; dport = λ e. refl }
free-test (model.Dst prefix) = record { src = λ e. refl; dst = λ e. absurd (false≢true (sym e)); sport = λ e. refl; dport = λ e. refl }
free-test (model.Proto proto) = record { src = λ e. refl; dst = λ e. refl; sport = λ e. refl; dport = λ e. refl }
free-test (model.Sport port) = record { src = λ e. refl; dst = λ e. refl; sport = λ e. absurd (false≢true (sym e)); dport = λ e. refl }
free-test (model.Dport port) = record { src = λ e. refl; dst = λ e. refl; sport = λ e. refl; dport = λ e. absurd (false≢true (sym e)) }

-- ---- meets

-- the fields of a cube are those that it is made of
record IsMadeOf (src dst : Option Prefix) (sport dport : Option (Option ℕ)) (c : Cube) : Type 0 where
  pub src_is : src ≡ Some c.src
  pub dst_is : dst ≡ Some c.dst
  pub sport_is : sport ≡ Some c.sport
  pub dport_is : dport ≡ Some c.dport

made-of : (inport : Option (Option PortNo)) (src dst : Option Prefix) (proto sport dport : Option (Option ℕ)) (c : Cube) → cube_of inport src dst proto sport dport ≡ Some c → IsMadeOf src dst sport dport c
made-of None src dst proto sport dport c e = absurd (cc)
made-of (Some i) None dst proto sport dport c e = absurd (cc)
made-of (Some i) (Some s) None proto sport dport c e = absurd (cc)
made-of (Some i) (Some s) (Some d) None sport dport c e = absurd (cc)
made-of (Some i) (Some s) (Some d) (Some p) None dport c e = absurd (cc)
made-of (Some i) (Some s) (Some d) (Some p) (Some sp) None c e = absurd (cc)
made-of (Some i) (Some s) (Some d) (Some p) (Some sp) (Some dp) c e =
    let all : Cube = record { inport = i; src = s; dst = d; proto = p; sport = sp; dport = dp } in
    let same : all ≡ c = cc in
    record { src_is = ap (λ (x : Cube). Some x.src) same; dst_is = ap (λ (x : Cube). Some x.dst) same; sport_is = ap (λ (x : Cube). Some x.sport) same; dport_is = ap (λ (x : Cube). Some x.dport) same }

meet-any : meet_prefixes any_prefix any_prefix ≡ Some any_prefix
unfolding meet_prefixes same_bits
meet-any = refl

left-false : (a b : Bool) → (a || b) ≡ false → a ≡ false
left-false true b e = e
left-false false b e = refl

right-false : (a b : Bool) → (a || b) ≡ false → b ≡ false
right-false true b e = absurd (false≢true (sym e))
right-false false b e = e

prefix-met : (a b : Bool) (p q r : Prefix) → (a ≡ false → p ≡ any_prefix) → (b ≡ false → q ≡ any_prefix) → meet_prefixes p q ≡ Some r → (a || b) ≡ false → r ≡ any_prefix
prefix-met a b p q r left right met none =
    let p_any = left (left-false a b none) in
    let q_any = right (right-false a b none) in
    let any : meet_prefixes p q ≡ Some any_prefix = rw (p_any, q_any) meet-any in
    cc

value-met : (same : ℕ → ℕ → Bool) (a b : Bool) (v w r : Option ℕ) → (a ≡ false → v ≡ None) → (b ≡ false → w ≡ None) → meet_values same v w ≡ Some r → (a || b) ≡ false → r ≡ None
value-met same a b v w r left right met none =
    let v_any = left (left-false a b none) in
    let w_any = right (right-false a b none) in
    let any : meet_values same v w ≡ Some None = rw (v_any, w_any) refl in
    cc

-- a meet is free where both its cubes are
free-meet : (f g : Fields) (a b c : Cube) → IsFree f a → IsFree g b → meet_cubes a b ≡ Some c → IsFree (both_fields f g) c
unfolding meet_cubes
free-meet f g a b c left right met =
    let made = made-of _ _ _ _ _ _ c met in
    record {
      src = λ none. prefix-met f.src g.src a.src b.src c.src left.src right.src made.src_is none;
      dst = λ none. prefix-met f.dst g.dst a.dst b.dst c.dst left.dst right.dst made.dst_is none;
      sport = λ none. value-met _ f.sport g.sport a.sport b.sport c.sport left.sport right.sport made.sport_is none;
      dport = λ none. value-met _ f.dport g.dport a.dport b.dport c.dport left.dport right.dport made.dport_is none;
    }

-- ---- predicates

-- the fields that a predicate tests decide where it holds, its parts too, and a conjunction's one cube is free outside them
record AreEnough (fields : Fields) (p : model.Pred) : Type 0 where
  pub whole : Decide fields p
  pub parts : (m : Cube) (set : Assign) → part_at m (seen fields set) p ≡ part_at m set p
  pub free : (c : Cube) → plain p ≡ Some (Some c) → IsFree fields c

kept-left : {A : Type 0} (a b : Bool) (value : Option A) → kept a (kept (a || b) value) ≡ kept a value
kept-left true b value = refl
kept-left false b value = refl

kept-right : {A : Type 0} (a b : Bool) (value : Option A) → kept b (kept (a || b) value) ≡ kept b value
kept-right true b value = refl
kept-right false true value = refl
kept-right false false value = refl

seen-left : (f g : Fields) (set : Assign) → seen f (seen (both_fields f g) set) ≡ seen f set
seen-left f g set = rw (kept-left f.src g.src set.src, kept-left f.dst g.dst set.dst, kept-left f.sport g.sport set.sport, kept-left f.dport g.dport set.dport) refl

seen-right : (f g : Fields) (set : Assign) → seen g (seen (both_fields f g) set) ≡ seen g set
seen-right f g set = rw (kept-right f.src g.src set.src, kept-right f.dst g.dst set.dst, kept-right f.sport g.sport set.sport, kept-right f.dport g.dport set.dport) refl

-- what is decided by some of the fields is decided by all
wider-left : (f g : Fields) (at : Assign → Bool) → ((set : Assign) → at (seen f set) ≡ at set) → (set : Assign) → at (seen (both_fields f g) set) ≡ at set
wider-left f g at by set = sym (by (seen (both_fields f g) set)) ∙ ap at (seen-left f g set) ∙ by set

wider-right : (f g : Fields) (at : Assign → Bool) → ((set : Assign) → at (seen g set) ≡ at set) → (set : Assign) → at (seen (both_fields f g) set) ≡ at set
wider-right f g at by set = sym (by (seen (both_fields f g) set)) ∙ ap at (seen-right f g set) ∙ by set

-- both sides of a conjunction or disjunction
both-seen : (f g : Fields) (join : Bool → Bool → Bool) (near far : Assign → Bool) → ((set : Assign) → near (seen f set) ≡ near set) → ((set : Assign) → far (seen g set) ≡ far set)
    → (set : Assign) → join (near (seen (both_fields f g) set)) (far (seen (both_fields f g) set)) ≡ join (near set) (far set)
both-seen f g join near far left right set =
    ap (λ b. join b (far (seen (both_fields f g) set))) (wider-left f g near left set) ∙ ap (join (near set)) (wider-right f g far right set)

-- a conjunction with one more test
free-one_more : (f g : Fields) (o : Option (Option Cube)) (q : model.Pred) (c : Cube) → ((d : Cube) → o ≡ Some (Some d) → IsFree f d) → ((d : Cube) → plain q ≡ Some (Some d) → IsFree g d)
    → one_more o q ≡ Some (Some c) → IsFree (both_fields f g) c
free-one_more f g None q c left right e = absurd (cc)
free-one_more f g (Some o) model.Yes c left right e = absurd (cc)
free-one_more f g (Some o) (model.Not p) c left right e = absurd (cc)
free-one_more f g (Some o) (model.And p q) c left right e = absurd (cc)
free-one_more f g (Some o) (model.Or p q) c left right e = absurd (cc)
free-one_more f g (Some None) (model.Is test span) c left right e = absurd (cc)
free-one_more f g (Some (Some d)) (model.Is test span) c left right e =
    let met : meet_cubes d (test_cube test) ≡ Some c = cc in
    free-meet f g d (test_cube test) c (left d refl) (right (test_cube test) refl) met

-- where a conjunction has one cube, that decides, and else its parts do
plain-seen : (m : Cube) (fields : Fields) (set : Assign) (o : Option (Option Cube)) (before after : Bool) → ((c : Cube) → o ≡ Some (Some c) → IsFree fields c) → before ≡ after
    → where_plain m (seen fields set) o before ≡ where_plain m set o after
plain-seen m fields set None before after free same = same
plain-seen m fields set (Some None) before after free same = refl
plain-seen m fields set (Some (Some c)) before after free same = ap (within_found m) (pull-seen fields c set (free c refl))

test-seen : (m : Cube) (set : Assign) (test : model.Test) → taken_into m (seen (field_tested test) set) (Some (test_cube test)) ≡ taken_into m set (Some (test_cube test))
test-seen m set test = ap (within_found m) (pull-seen (field_tested test) (test_cube test) set (free-test test))

one-cube : (a b : Cube) → Some (Some a) ≡ Some (Some b) → a ≡ b
one-cube a b e = cc

tested-enough : (p : model.Pred) → AreEnough (tested p) p
tested-enough model.Yes = record { whole = λ m set. refl; parts = λ m set. refl; free = λ c e. absurd (cc) }
tested-enough (model.Is test span) = record {
  whole = λ m set. test-seen m set test;
  parts = λ m set. test-seen m set test;
  free = λ c e. subst (IsFree (field_tested test)) (one-cube (test_cube test) c e) (free-test test);
}
tested-enough (model.Not p) =
    let i = tested-enough p in
    record { whole = λ m set. ap not (i.whole m set); parts = λ m set. ap not (i.whole m set); free = λ c e. absurd (cc) }
tested-enough (model.And p q) =
    let i = tested-enough p in
    let j = tested-enough q in
    let both = λ (m : Cube). both-seen (tested p) (tested q) (λ a b. a && b) (λ s. part_at m s p) (λ s. pred_at m s q) (i.parts m) (j.whole m) in
    let free : (c : Cube) → one_more (plain p) q ≡ Some (Some c) → IsFree (both_fields (tested p) (tested q)) c = λ c. free-one_more (tested p) (tested q) (plain p) q c i.free j.free in
    record {
      whole = λ m set. plain-seen m (both_fields (tested p) (tested q)) set (one_more (plain p) q) _ _ free (both m set);
      parts = both;
      free = free;
    }
tested-enough (model.Or p q) =
    let i = tested-enough p in
    let j = tested-enough q in
    let both = λ (m : Cube). both-seen (tested p) (tested q) (λ a b. a || b) (λ s. pred_at m s p) (λ s. pred_at m s q) (i.whole m) (j.whole m) in
    record { whole = both; parts = both; free = λ c e. absurd (cc) }

-- the fields that a predicate tests decide where it holds
pub tested-decide : (fields : Fields) (p : model.Pred) → fields ≡ tested p → Decide fields p
tested-decide fields p is = subst (λ f. Decide f p) (sym is) (tested-enough p).whole
