-- Policies that are compiled, lent and changed.
use Rattle.std.proofs.Common.{◌≡◌, ℕ, zero, suc, ◌+◌, ◌<◌, List, [], ◌∷◌, ◌++◌, length, map, take, drop, unwrap_or, sym, ap, subst, ◌∙◌, refl, inl, inr, ⊎_elim, arith}
use Rattle.std.specs.Prelude.{◌⊎◌, Option, Some, None, Result, Ok, Err, IfOk, slice_get, slice_index_or, slice_set, codes}
use Rattle.std.specs.Option.{option_map_or}
use Rattle.std.proofs.lemmas.List.{length-map}
use Rattle.block_build.specs.Lent.{AreOf, Lent}
use Rattle.classifier.specs.Classifiers.{lines_of}
use Rattle.classifier.specs.Meaning as lines
use Rattle.classifier.specs.declared.line.Line.{Line}
use Rattle.events.proofs.DropText.{drop_is_read}
use Rattle.events.proofs.Reached.{set_length}
use Rattle.events.specs.State.{State, ArePolicies, AreRead}
use Rattle.exchange_laws.proofs.OwnHops.{Member_set}
use Rattle.exchange_laws.specs.Steady.{AllDrop}
use Rattle.net_types.proofs.FindLemmas.{slice_get-Member}
use Rattle.net_types.specs.Answers.{Policies}
use Rattle.net_types.specs.Cubes.{everything}
use Rattle.net_types.specs.Exports.{pid_of}
use Rattle.net_types.specs.Meets.{IsMeet}
use Rattle.net_types.specs.Policies.{Drop, Policy, atoms, den}
use Rattle.net_types.specs.PolicyReading.{policy_of_text}
use Rattle.net_types.specs.Sets.{Member, SameMembers}
use Rattle.net_types.specs.declared.address.Pid.{Pid}
use Rattle.net_types.specs.declared.cube.Cube.{Cube}
use Rattle.net_types.specs.declared.headers.Headers.{Headers}
use Rattle.net_types.specs.declared.headers.Loc.{Loc}
use Rattle.net_types.specs.declared.headers.Loc.TheVariants.{Stay as Stays}
use Rattle.exchange_core.specs.Programs.{AreCompiled, AreRulesOf, IsChangeCompiled, IsCompiled, all_lent, changed, inbound_after, inbound_texts, lent_of, outbound_after, outbound_texts}
use Rattle.exchange_core.specs.declared.programs.PolicyChange.{PolicyChange}
use Rattle.exchange_core.specs.declared.programs.PolicyChange.TheVariants.{Stay, Outbound, Inbound}
use Rattle.exchange_core.specs.declared.programs.Program.{Program}
use Rattle.exchange_core.specs.declared.programs.Programs.{Programs}
use Rattle.exchange_laws.proofs.ReadPolicies.{one_policy}

-- ---- one policy

-- rules that give nothing and have one cube do what `drop` does
pub drops : (text : List ℕ) (rules : List Line) → text ≡ codes "drop" → ((h : Headers) (l : Loc) → lines.meaning rules h l ≡ []) → lines.cubes_of rules ≡ everything ∷ [] → (names : List ℕ → Option Pid) → AreRulesOf names text rules
drops text rules is none alone names = record {
  means = λ p read h. subst (λ q. SameMembers (lines.meaning rules h Stays) (den names q h Stays)) (sym (dropped p read)) (record {
    onto = λ x m. absurd (elim (subst (Member x) (none h Stays) m) [ ]);
    back = λ x m. absurd (elim m [ ]);
  });
  cubes = λ p read c m. subst (λ q. IsMeet (atoms q) c) (sym (dropped p read)) (only c (subst (Member c) alone m));
}
  where
    dropped : (p : Policy) → policy_of_text text ≡ Ok p → p ≡ Drop
    dropped p read = one_policy (policy_of_text text) p Drop read (ap policy_of_text is ∙ drop_is_read)

    only : (c : Cube) → Member c (everything ∷ []) → c ≡ everything
    only c (inl e) = e
    only c (inr m) = absurd (elim m [ ])

-- rules that do what the policy does that the text was read as
pub compiles : (names : List ℕ → Option Pid) (text read : List ℕ) (p : Policy) (rules : List Line) → text ≡ read → policy_of_text read ≡ Ok p
    → ((h : Headers) (l : Loc) → SameMembers (lines.meaning rules h l) (den names p h l)) → ((c : Cube) → Member c (lines.cubes_of rules) → IsMeet (atoms p) c) → AreRulesOf names text rules
compiles names text read p rules same is means cubes = record {
  means = λ q again h. subst (λ x. SameMembers (lines.meaning rules h Stays) (den names x h Stays)) (this q again) (means h Stays);
  cubes = λ q again c m. subst (λ x. IsMeet (atoms x) c) (this q again) (cubes c m);
}
  where
    this : (q : Policy) → policy_of_text text ≡ Ok q → p ≡ q
    this q again = one_policy (policy_of_text text) p q (ap policy_of_text same ∙ is) again

-- ---- lists in which one participant's are others

module _ {X : Type 0} (f : Programs → X) (g : Programs → Programs) (y : X) where
  pub one_other : (all : List Programs) (k : ℕ) (o : Option Programs) → slice_get all k ≡ o → ((b : Programs) → o ≡ Some b → f (g b) ≡ y) → map f (option_map_or (λ b. slice_set all k (g b)) o all) ≡ slice_set (map f all) k y
  one_other [] k None e gives = refl
  one_other [] k (Some b) e gives = absurd (cc)
  one_other (b ∷ bs) zero None e gives = absurd (cc)
  one_other (b ∷ bs) zero (Some x) e gives = ap (λ z. z ∷ map f bs) (gives x refl)
  one_other (b ∷ bs) (suc k) None e gives = ap (λ zs. f b ∷ zs) (one_other bs k None e gives)
  one_other (b ∷ bs) (suc k) (Some x) e gives = ap (λ zs. f b ∷ zs) (one_other bs k (Some x) e gives)

module _ {X : Type 0} (f : Programs → X) (g : Programs → Programs) (same : (b : Programs) → f (g b) ≡ f b) where
  pub none_other : (all : List Programs) (k : ℕ) (o : Option Programs) → slice_get all k ≡ o → map f (option_map_or (λ b. slice_set all k (g b)) o all) ≡ map f all
  none_other all k None e = refl
  none_other [] k (Some x) e = absurd (cc)
  none_other (b ∷ bs) zero (Some x) e = let is : x ≡ b = cc in ap (λ z. z ∷ map f bs) (same x ∙ ap f is)
  none_other (b ∷ bs) (suc k) (Some x) e = ap (λ zs. f b ∷ zs) (none_other bs k (Some x) e)

pub outbound_changed : (all : List Programs) (change : PolicyChange) → outbound_texts (changed all change) ≡ outbound_after (outbound_texts all) change
outbound_changed all Stay = refl
outbound_changed all (Outbound who p) = one_other (λ (b : Programs). b.outbound.text) (λ b. record b { outbound = p }) p.text all who.0 (slice_get all who.0) refl (λ b e. refl)
outbound_changed all (Inbound who p) = none_other (λ (b : Programs). b.outbound.text) (λ b. record b { inbound = p }) (λ b. refl) all who.0 (slice_get all who.0) refl

pub inbound_changed : (all : List Programs) (change : PolicyChange) → inbound_texts (changed all change) ≡ inbound_after (inbound_texts all) change
inbound_changed all Stay = refl
inbound_changed all (Outbound who p) = none_other (λ (b : Programs). b.inbound.text) (λ b. record b { outbound = p }) (λ b. refl) all who.0 (slice_get all who.0) refl
inbound_changed all (Inbound who p) = one_other (λ (b : Programs). b.inbound.text) (λ b. record b { inbound = p }) p.text all who.0 (slice_get all who.0) refl (λ b e. refl)

after_length : (texts : List (List ℕ)) (change : PolicyChange) → length (outbound_after texts change) ≡ length texts
after_length texts Stay = refl
after_length texts (Outbound who p) = set_length texts who.0 p.text
after_length texts (Inbound who p) = refl

-- as many are lent as there are texts
pub lent_length : (all : List Programs) (change : PolicyChange) → length (all_lent (changed all change)) ≡ length (outbound_texts all)
lent_length all change =
    length-map (changed all change) lent_of ∙ sym (length-map (changed all change) (λ (b : Programs). b.outbound.text)) ∙ ap length (outbound_changed all change) ∙ after_length (outbound_texts all) change

-- what is changed is compiled where all was and what it brings is
pub changed_compiled : (names : List ℕ → Option Pid) (all : List Programs) (change : PolicyChange) → AreCompiled names all → IsChangeCompiled names change → AreCompiled names (changed all change)
changed_compiled names all Stay are brings = are
changed_compiled names all (Outbound who p) are brings = by (slice_get all who.0) refl
  where
    by : (o : Option Programs) → slice_get all who.0 ≡ o → AreCompiled names (option_map_or (λ (b : Programs). slice_set all who.0 (record b { outbound = p })) o all)
    by None e = are
    by (Some x) e = λ b m. which b (Member_set all who.0 (record x { outbound = p }) b m)
      where
        which : (b : Programs) → Member b all ⊎ (b ≡ record x { outbound = p }) → IsCompiled names b.outbound × IsCompiled names b.inbound
        which b (inl m) = are b m
        which b (inr is) = subst (λ (z : Programs). IsCompiled names z.outbound × IsCompiled names z.inbound) (sym is) (brings, (are x (slice_get-Member all who.0 x e)).1)
changed_compiled names all (Inbound who p) are brings = by (slice_get all who.0) refl
  where
    by : (o : Option Programs) → slice_get all who.0 ≡ o → AreCompiled names (option_map_or (λ (b : Programs). slice_set all who.0 (record b { inbound = p })) o all)
    by None e = are
    by (Some x) e = λ b m. which b (Member_set all who.0 (record x { inbound = p }) b m)
      where
        which : (b : Programs) → Member b all ⊎ (b ≡ record x { inbound = p }) → IsCompiled names b.outbound × IsCompiled names b.inbound
        which b (inl m) = are b m
        which b (inr is) = subst (λ (z : Programs). IsCompiled names z.outbound × IsCompiled names z.inbound) (sym is) ((are x (slice_get-Member all who.0 x e)).0, brings)

last_or : (all : List Programs) (b x : Programs) → Member x (all ++ b ∷ []) → Member x all ⊎ (x ≡ b)
last_or [] b x (inl is) = inr is
last_or [] b x (inr m) = absurd (elim m [ ])
last_or (a ∷ all) b x (inl is) = inl (inl is)
last_or (a ∷ all) b x (inr m) = ⊎_elim (λ n. inl (inr n)) (λ is. inr is) (last_or all b x m)

-- a further participant's policies are compiled where all others are and its own are
pub joined_compiled : (names : List ℕ → Option Pid) (all : List Programs) (b : Programs) → AreCompiled names all → IsCompiled names b.outbound → IsCompiled names b.inbound → AreCompiled names (all ++ b ∷ [])
joined_compiled names all b are outbound inbound = λ x m.
    ⊎_elim (λ n. are x n) (λ is. subst (λ (z : Programs). IsCompiled names z.outbound × IsCompiled names z.inbound) (sym is) (outbound, inbound)) (last_or all b x m)

-- the text `drop` is compiled whatever the names are
pub drop_compiled : (names names' : List ℕ → Option Pid) (p : Program) → p.text ≡ codes "drop" → IsCompiled names p → IsCompiled names' p
drop_compiled names names' p is compiled = record {
  means = λ q read h. subst (λ x. SameMembers (lines.meaning (lines_of p.classifier) h Stays) (den names' x h Stays)) (sym (dropped q read)) (subst (λ x. SameMembers (lines.meaning (lines_of p.classifier) h Stays) (den names x h Stays)) (dropped q read) (compiled.means q read h));
  cubes = compiled.cubes;
}
  where
    dropped : (q : Policy) → policy_of_text p.text ≡ Ok q → q ≡ Drop
    dropped q read = one_policy (policy_of_text p.text) q Drop read (ap policy_of_text is ∙ drop_is_read)

texts_same : {X Y M : Type 0} (f : X → Y) (text : Y) (xs : List X) (ms : List M) → map f xs ≡ map (λ m. text) ms → (x : X) → Member x xs → f x ≡ text
texts_same f text [] ms e x m = absurd (elim m [ ])
texts_same f text (y ∷ ys) [] e x m = absurd (cc)
texts_same f text (y ∷ ys) (z ∷ zs) e x (inl is) = let first : f y ≡ text = cc in ap f is ∙ first
texts_same f text (y ∷ ys) (z ∷ zs) e x (inr m) = let rest : map f ys ≡ map (λ m. text) zs = cc in texts_same f text ys zs rest x m

-- where all policies drop, they are compiled whatever the names are
pub dropping_compiled : (s : State) (all : List Programs) → s.outbound ≡ outbound_texts all → s.inbound ≡ inbound_texts all → AllDrop s → (names names' : List ℕ → Option Pid) → AreCompiled names all → AreCompiled names' all
dropping_compiled s all outbound inbound drop names names' are = λ b m. let each = are b m in (
  drop_compiled names names' b.outbound (texts_same (λ (x : Programs). x.outbound.text) (codes "drop") all s.routing.participants (sym outbound ∙ drop.outbound) b m) each.0,
  drop_compiled names names' b.inbound (texts_same (λ (x : Programs). x.inbound.text) (codes "drop") all s.routing.participants (sym inbound ∙ drop.inbound) b m) each.1,
)

-- ---- what is lent

-- the classifiers of all with others in place of those of one
pub lent_split : (all : List Programs) (k : ℕ) (x : Lent) → k < length all → (all_lent (take k all) ++ x ∷ []) ++ all_lent (drop (suc k) all) ≡ slice_set (all_lent all) k x
lent_split [] k x below = absurd (omega (arith, below))
lent_split (b ∷ bs) zero x below = refl
lent_split (b ∷ bs) (suc k) x below = ap (λ l. lent_of b ∷ l) (lent_split bs k x (omega (arith, below)))

module _ (T : List Line → Policy → Type 0) (f : Programs → List ℕ) (g : Lent → List Line) where
  at_place : (all : List Programs) (ps : List Policy) (k : ℕ) → k < length (map lent_of all) → AreRead (map f all) ps → ((b : Programs) → Member b all → (p : Policy) → policy_of_text (f b) ≡ Ok p → T (g (lent_of b)) p)
      → T (option_map_or g (slice_get (map lent_of all) k) []) (unwrap_or (slice_get ps k) Drop)
  at_place [] ps k below read are = absurd (omega (arith, below))
  at_place (b ∷ bs) [] k below read are = absurd read
  at_place (b ∷ bs) (p ∷ ps) zero below read are = are b (inl refl) p read.0
  at_place (b ∷ bs) (p ∷ ps) (suc k) below read are = at_place bs ps k (omega (arith, below)) read.1 (λ x m. are x (inr m))

-- the rules that are lent are those of the policies that the texts are read as
pub lent_are_of : (s : State) (all : List Programs) (ps : Policies) → s.outbound ≡ outbound_texts all → s.inbound ≡ inbound_texts all → AreCompiled (pid_of s.routing) all → ArePolicies s ps → AreOf ps (all_lent all)
lent_are_of s all ps outbound inbound are policies =
    let names : pid_of s.routing ≡ ps.named = sym policies.names in
    let compiled : AreCompiled ps.named all = subst (λ n. AreCompiled n all) names are in
    let sent : AreRead (outbound_texts all) ps.outbound = subst (λ texts. AreRead texts ps.outbound) outbound policies.outbound in
    let received : AreRead (inbound_texts all) ps.inbound = subst (λ texts. AreRead texts ps.inbound) inbound policies.inbound in
    record {
      sends = λ who below h. at_place (λ rules p. SameMembers (lines.meaning rules h Stays) (den ps.named p h Stays)) (λ (b : Programs). b.outbound.text) (λ (l : Lent). l.outbound) all ps.outbound who.0 below sent
          (λ b m p read. (compiled b m).0.means p read h);
      sender_cubes = λ who below c m. at_place (λ rules p. Member c (lines.cubes_of rules) → IsMeet (atoms p) c) (λ (b : Programs). b.outbound.text) (λ (l : Lent). l.outbound) all ps.outbound who.0 below sent
          (λ b n p read. (compiled b n).0.cubes p read c) m;
      receives = λ who below h. at_place (λ rules p. SameMembers (lines.meaning rules h Stays) (den ps.named p h Stays)) (λ (b : Programs). b.inbound.text) (λ (l : Lent). l.inbound) all ps.inbound who.0 below received
          (λ b m p read. (compiled b m).1.means p read h);
      receiver_cubes = λ who below c m. at_place (λ rules p. Member c (lines.cubes_of rules) → IsMeet (atoms p) c) (λ (b : Programs). b.inbound.text) (λ (l : Lent). l.inbound) all ps.inbound who.0 below received
          (λ b n p read. (compiled b n).1.cubes p read c) m;
    }

pub lent_around : (all : List Programs) (k : ℕ) (x : Lent) → k < length all → (all_lent (take k all) ++ x ∷ []) ++ all_lent (drop (k + 1) all) ≡ slice_set (all_lent all) k x
lent_around all k x below = let next : suc k ≡ k + 1 = omega arith in
    subst (λ n. (all_lent (take k all) ++ x ∷ []) ++ all_lent (drop n all) ≡ slice_set (all_lent all) k x) next (lent_split all k x below)

index_is : (all : List Programs) (k : ℕ) (d b : Programs) → slice_get all k ≡ Some b → slice_index_or all k d ≡ b
index_is [] k d b e = absurd (cc)
index_is (a ∷ all) zero d b e = cc
index_is (a ∷ all) (suc k) d b e = index_is all k d b e

-- the classifiers of all after a change of one's outbound policy
pub lent_outbound : (all : List Programs) (who : Pid) (p : Program) (d : Programs)
    → slice_set (all_lent all) who.0 (record { outbound = lines_of p.classifier; inbound = lines_of (slice_index_or all who.0 d).inbound.classifier }) ≡ all_lent (changed all (Outbound who p))
lent_outbound all who p d = sym (one_other lent_of (λ b. record b { outbound = p }) (record { outbound = lines_of p.classifier; inbound = lines_of (slice_index_or all who.0 d).inbound.classifier }) all who.0 (slice_get all who.0) refl
    (λ b e. ap (λ (x : Programs). let l : Lent = record { outbound = lines_of p.classifier; inbound = lines_of x.inbound.classifier } in l) (sym (index_is all who.0 d b e))))

-- and of one's inbound policy
pub lent_inbound : (all : List Programs) (who : Pid) (p : Program) (d : Programs)
    → slice_set (all_lent all) who.0 (record { outbound = lines_of (slice_index_or all who.0 d).outbound.classifier; inbound = lines_of p.classifier }) ≡ all_lent (changed all (Inbound who p))
lent_inbound all who p d = sym (one_other lent_of (λ b. record b { inbound = p }) (record { outbound = lines_of (slice_index_or all who.0 d).outbound.classifier; inbound = lines_of p.classifier }) all who.0 (slice_get all who.0) refl
    (λ b e. ap (λ (x : Programs). let l : Lent = record { outbound = lines_of x.outbound.classifier; inbound = lines_of p.classifier } in l) (sym (index_is all who.0 d b e))))

-- what is answered is another list where that is the same
pub answers_same : {A E : Type 0} (result : Result A E) (x y : A) → x ≡ y → IfOk result (λ v. v ≡ x) → IfOk result (λ v. v ≡ y)
answers_same (Ok v) x y same is = is ∙ same
answers_same (Err e) x y same is = tt
