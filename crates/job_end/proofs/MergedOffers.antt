-- With what is present of the prefixes that move offered anew, what is present is what is at the end of a job.
use Rattle.std.proofs.Common.{◌≡◌, ◌+◌, ◌<◌, ◌⊎◌, Bool, true, false, List, length, ap, sym, subst, ◌∙◌, refl, arith, inl, inr}
use Rattle.std.specs.Prelude.{Option, Some, None}
use Rattle.std.specs.FinMap.{get}
use Rattle.std.specs.Option.{option_and_then, option_map}
use Rattle.events.specs.After.{merged}
use Rattle.events.specs.State.{State, present}
use Rattle.events.specs.Tags.{same_tag}
use Rattle.events.specs.declared.Entry.{Entry}
use Rattle.exchange_laws.proofs.LivePairs.{present_is}
use Rattle.exchange_laws.proofs.Lists.{clash, numbers_range}
use Rattle.exchange_laws.proofs.Sames.{tags_test}
use Rattle.exchange_laws.specs.Steady.{IsSteady}
use Rattle.fast_path.proofs.OfferedPresent.{listed_at, pid_at, state_at}
use Rattle.fast_path.specs.LiveOnly.{registered}
use Rattle.fast_path.specs.Offers.{AreOffers, IsOffered, Present, all_present, declared_pids, present_to}
use Rattle.fast_path.specs.declared.planned.Advert.{Advert}
use Rattle.job_end.proofs.MergedTags.{changed, move_at}
use Rattle.job_end.specs.Offers.{Move, offers_at, offers_of, offers_to, retold}
use Rattle.job_laws.specs.Jobs.{without_job}
use Rattle.net_types.proofs.FindLemmas.{slice_get-Member}
use Rattle.net_types.proofs.SetLemmas.{Member-union, union-Member}
use Rattle.net_types.specs.Attributes.{same_option}
use Rattle.net_types.specs.Routes.{Candidate, best}
use Rattle.net_types.specs.Sets.{Member}
use Rattle.net_types.specs.declared.address.Pid.{Pid}
use Rattle.net_types.specs.declared.address.Tag.{Tag}
use Rattle.net_types.specs.declared.prefix.Prefix.{Prefix}
use Rattle.prefix_classes.specs.Merging.{IsMergeOf}
use Rattle.std.proofs.lemmas.Option.{same_Some}

-- ---- entries

-- the entry of a best route, where there is one, and a tag
abbrev entry_at : Option Candidate → Option Tag → Option Entry
entry_at b o = option_and_then (λ (c : Candidate). option_map (λ t. let x : Entry = record { attrs = c.attrs; tag = t } in x) o) b

abbrev with_tag : Entry → Tag → Entry
with_tag e t = record { attrs = e.attrs; tag = t }

-- by another tag it is the same but for the tag
moved_entry : (b : Option Candidate) (t u : Tag) (e : Entry) → entry_at b (Some t) ≡ Some e → entry_at b (Some u) ≡ Some (with_tag e u)
moved_entry None t u e is = absurd (cc)
moved_entry (Some c) t u e is = let first : Entry = record { attrs = c.attrs; tag = t } in ap (λ (x : Entry). Some (with_tag x u)) (same_Some first e is)

-- where there is none by some tag, there is none by any
no_entry : (b : Option Candidate) (t : Tag) (o : Option Tag) → entry_at b (Some t) ≡ None → entry_at b o ≡ None
no_entry None t o is = refl
no_entry (Some c) t o is = absurd (cc)

-- ---- offers

-- an offer of an entry with another tag
record IsRetold (who : Pid) (m : Move) (now : Option Entry) (o : Advert) : Type 0 where
  entry : Entry
  there : now ≡ Some entry
  is : o ≡ (let x : Advert = record { who = who; prefix = m.0; entry = Some (with_tag entry m.1) } in x)

retold_one : (who : Pid) (m : Move) (now : Option Entry) (o : Advert) → Member o (retold who m now) → IsRetold who m now o
retold_one who m None o stands = absurd stands
retold_one who m (Some e) o (inl same) = record { entry = e; there = refl; is = same }
retold_one who m (Some e) o (inr none) = absurd none

module _ (s : State) (steady : IsSteady (without_job s)) (moves : List (Prefix × Tag)) (merge : IsMergeOf s.tag s.kept moves) where
  abbrev s1 : State
  s1 = merged s

  abbrev all : Present
  all = all_present s

  abbrev whos : List Pid
  whos = declared_pids (registered s)

  declared : (who : Pid) → Member who whos → who.0 < length s.routing.participants
  declared who m = let range = numbers_range pid_at (λ (x : Pid). x.0) (λ n. refl) 0 (length s.routing.participants) who m in
      let high : who.0 < 0 + length s.routing.participants = range.1 in
      omega (arith, high)

  listed : (who : Pid) → who.0 < length s.routing.participants → Member who whos
  listed who known = slice_get-Member whos who.0 who (listed_at (length s.routing.participants) who known)

  -- what is present for a participant of a prefix is by its best route and the prefix's tag
  now_at : (who : Pid) (p : Prefix) → who.0 < length s.routing.participants → get (present_to all who) p ≡ entry_at (best s.routing who p) (get s.tag p)
  now_at who p known = ap (λ m. get m p) (state_at s who known) ∙ present_is s who p

  then_at : (who : Pid) (p : Prefix) → get (present s1 who) p ≡ entry_at (best s.routing who p) (get s1.tag p)
  then_at who p = present_is s1 who p

  -- an entry of a moved prefix has the new tag then
  moved_at : (who : Pid) (p : Prefix) (u : Tag) (e : Entry) → who.0 < length s.routing.participants → Member (p, u) moves → get (present_to all who) p ≡ Some e → get (present s1 who) p ≡ Some (with_tag e u)
  moved_at who p u e known m now =
      let had = merge.right p u m in
      then_at who p
      ∙ ap (entry_at (best s.routing who p)) (move_at s steady moves merge p u m).0
      ∙ moved_entry (best s.routing who p) had.from u e (sym (ap (entry_at (best s.routing who p)) had.had) ∙ sym (now_at who p known) ∙ now)

  offer_right : (o : Advert) → Member o (offers_of all whos moves) → (o.who.0 < length s.routing.participants) × (o.entry ≡ get (present s1 o.who) o.prefix)
  offer_right o m =
      let of_who = union-Member (offers_at all moves) whos o m in
      let of_move = union-Member (offers_to all of_who.of) moves o of_who.gives in
      let who : Pid = of_who.of in
      let is = retold_one who of_move.of (get (present_to all who) of_move.of.0) o of_move.gives in
      let known = declared who of_who.stands in
      subst (λ (x : Advert). (x.who.0 < length s.routing.participants) × (x.entry ≡ get (present s1 x.who) x.prefix)) (sym is.is)
      (known, sym (moved_at who of_move.of.0 of_move.of.1 is.entry known of_move.stands is.there))

  offer_all : (who : Pid) (p : Prefix) → who.0 < length s.routing.participants → IsOffered (offers_of all whos moves) who p ⊎ (get (present s1 who) p ≡ get (present s who) p)
  offer_all who p known = by (same_option same_tag (get s.tag p) (get s1.tag p)) refl
    where
      offered : (u : Tag) → Member (p, u) moves → (o : Option Entry) → get (present_to all who) p ≡ o → IsOffered (offers_of all whos moves) who p ⊎ (get (present s1 who) p ≡ get (present s who) p)
      offered u m (Some e) now =
          let o : Advert = record { who = who; prefix = p; entry = Some (with_tag e u) } in
          let here : Member o (retold who (p, u) (get (present_to all who) p)) = subst (λ x. Member o (retold who (p, u) x)) (sym now) (inl refl) in
          inl (record {
            offer = o;
            stands = Member-union (offers_at all moves) whos who o (listed who known) (Member-union (offers_to all who) moves (p, u) o m here);
            to = refl;
            of = refl;
          })
      offered u m None now =
          let had = merge.right p u m in
          let none : entry_at (best s.routing who p) (Some had.from) ≡ None = sym (ap (entry_at (best s.routing who p)) had.had) ∙ sym (now_at who p known) ∙ now in
          inr (then_at who p ∙ no_entry (best s.routing who p) had.from (get s1.tag p) none ∙ sym now ∙ ap (λ x. get x p) (state_at s who known))

      by : (b : Bool) → same_option same_tag (get s.tag p) (get s1.tag p) ≡ b → IsOffered (offers_of all whos moves) who p ⊎ (get (present s1 who) p ≡ get (present s who) p)
      by true same = inr (then_at who p ∙ ap (entry_at (best s.routing who p)) (sym ((tags_test (get s.tag p) (get s1.tag p)).0 same)) ∙ sym (present_is s who p))
      by false apart =
          let to = changed s steady moves merge p (λ e. clash ((tags_test (get s.tag p) (get s1.tag p)).1 e) apart) in
          offered to.0 to.1 (get (present_to all who) p) refl

  pub offers_are : AreOffers s s1 (offers_of all whos moves)
  offers_are = record { each = offer_right; all = offer_all }
