-- The rules after a line that builds rules are right, whatever the policies.
use Rattle.std.proofs.Common.{◌≡◌, ◌<◌, ◌≤◌, Bool, true, false, ◌||◌, not, List, length, sym, ap, subst, ◌∙◌, refl, inl, inr}
use Rattle.std.specs.Prelude.{Some, is_some}
use Rattle.std.specs.FinMap.{get}
use Rattle.std.specs.Option.{option_and_then}
use Rattle.std.proofs.lemmas.Bool.{or_cases, or_left}
use Rattle.events.specs.Sound.{IsSound, owners_part, part_of, rule_count}
use Rattle.events.specs.State.{State, ArePolicies, AreRead, port_of, present, told_to}
use Rattle.events.specs.Tags.{is_live_pair, retagged, tells}
use Rattle.exchange_laws.proofs.LivePairs.{live_at, live_from, live_tag, present_part}
use Rattle.exchange_laws.proofs.Lists.{TableOf, clash}
use Rattle.exchange_laws.proofs.TagsAfter.{carried_have_tags, live_tags_stay, signatures_are_kept}
use Rattle.exchange_laws.specs.Retagging.{TagsArePooled}
use Rattle.exchange_laws.specs.Rules.{AreRightBut, IsChange, IsRightAt, IsTableAfter, IsTagged, LivePairsHaveParts, LivePairsKeepParts, OwnersAreDeclared, TablesStaySound, is_new}
use Rattle.net_types.proofs.PassLemmas.{some_there}
use Rattle.net_types.specs.Answers.{Policies}
use Rattle.net_types.specs.Exports.{Routing, pid_of}
use Rattle.net_types.specs.Sets.{Member}
use Rattle.net_types.specs.declared.address.PortNo.{PortNo}
use Rattle.net_types.specs.declared.route.PortInfo.{PortInfo}
use Rattle.net_types.specs.declared.rule.Pair.{Pair}
use Rattle.net_types.specs.declared.rule.Rule.{Rule}

-- the same texts and the same participants have the same policies
pub same_policies : (s s2 : State) (ps : Policies) → s2.routing.participants ≡ s.routing.participants → s2.outbound ≡ s.outbound → s2.inbound ≡ s.inbound → ArePolicies s ps → ArePolicies s2 ps
same_policies s s2 ps alike outbound inbound are = record {
  names = are.names ∙ (λ i. pid_of (record s2.routing { participants = sym alike i }));
  outbound = subst (λ texts. AreRead texts ps.outbound) (sym outbound) are.outbound;
  inbound = subst (λ texts. AreRead texts ps.inbound) (sym inbound) are.inbound;
}

-- a sound state has what is so whatever its rules are
pub sound_tagged : (s : State) → IsSound s → IsTagged s
sound_tagged s sound = record {
  pairs = sound.pairs;
  parts = λ pair live.
      let rules = some_there (get s.table pair) (sound.pairs pair ∙ live) in
      let right = sound.right.2 pair rules.0 rules.1 in
      ap is_some right.1;
  tagged = sound.tagged;
  kept = sound.kept;
}

-- a pair that was live and isn't built anew isn't new
pub not_new : (s : State) (is_rebuilt : Pair → Bool) (pair : Pair) → is_live_pair s pair ≡ true → is_rebuilt pair ≡ false → is_new s is_rebuilt pair ≡ false
not_new s is_rebuilt pair live kept = ap (λ b. not b || is_rebuilt pair) live ∙ kept

module _ (s : State) (r : Routing) (change : IsChange s r) where
  abbrev s1 : State
  s1 = retagged s r

  pooled : TagsArePooled s
  pooled = change.pooled

  same_port : (n : PortNo) → port_of s1 n ≡ port_of s n
  same_port n = ap (λ ports. port_of (record s { routing = record r { ports = ports } }) n) change.alike.ports

  owners : OwnersAreDeclared r
  owners q m = subst (λ ms. q.owner.0 < length ms) (sym change.alike.participants) (change.owners q (subst (Member q) change.alike.ports m))

  -- a pair that is live now was live, or its owner's part is kept
  part_there : (pair : Pair) → is_live_pair s1 pair ≡ true → is_live_pair s pair ≡ false → is_some (owners_part s1 pair) ≡ true
  part_there pair live new =
      let at = live_at s1 pair live in
      let q : PortInfo = at.0 in
      elim (or_cases (tells (told_to s1 q.owner) pair.tag) (tells (present s1 q.owner) pair.tag) at.1.for) [
        | inl told ↦ absurd (clash (live_from s pair q (sym (same_port pair.port) ∙ at.1.port) (or_left (tells (told_to s q.owner) pair.tag) (tells (present s q.owner) pair.tag) told)) new)
        | inr now ↦ present_part s1 (signatures_are_kept s r pooled) owners pair q at.1.port now
      ]

  -- a pair that stays live keeps its owner's part
  pub part_stays : (pair : Pair) → is_live_pair s pair ≡ true → is_live_pair s1 pair ≡ true → owners_part s1 pair ≡ owners_part s pair
  part_stays pair before after =
      ap (option_and_then (λ (q : PortInfo). option_and_then (λ sig. part_of sig q.owner) (get s1.kept pair.tag))) (same_port pair.port)
      ∙ ap (λ kept. option_and_then (λ (q : PortInfo). option_and_then (λ sig. part_of sig q.owner) kept) (port_of s pair.port)) (live_tags_stay s r pooled pair.tag (live_tag s pair before) (live_tag s1 pair after))

  -- the owner of a live pair's port has a part in the signature that is kept for its tag
  pub part_kept : (pair : Pair) → is_live_pair s1 pair ≡ true → is_some (owners_part s1 pair) ≡ true
  part_kept pair live = by (is_live_pair s pair) refl
    where
      by : (b : Bool) → is_live_pair s pair ≡ b → is_some (owners_part s1 pair) ≡ true
      by true before = ap is_some (part_stays pair before live) ∙ change.tagged.parts pair before
      by false dead = part_there pair live dead

  -- ---- any table

  module _ (is_rebuilt : Pair → Bool) (but : AreRightBut s is_rebuilt) (table : TableOf) (is : IsTableAfter s s1 is_rebuilt table) where
    abbrev ps : Policies
    ps = but.policies

    are : ArePolicies s1 ps
    are = same_policies s s1 ps change.alike.participants refl refl but.read

    -- the rules of each pair are right
    pub rules_right : (pair : Pair) (rules : List Rule) → get table pair ≡ Some rules → IsRightAt ps s1 pair rules
    rules_right pair rules has = by (is_live_pair s pair) (is_rebuilt pair) refl refl
      where
        live : is_live_pair s1 pair ≡ true
        live = sym (is.pairs pair) ∙ ap is_some has

        by : (b c : Bool) → is_live_pair s pair ≡ b → is_rebuilt pair ≡ c → IsRightAt ps s1 pair rules
        by true false before kept =
            let right = but.right pair rules kept (is.old pair rules (not_new s is_rebuilt pair before kept) has) in
            (right.0, part_stays pair before live ∙ right.1, right.2)
        by true true before anew = is.new ps are pair rules (ap (λ b. not b || is_rebuilt pair) before ∙ anew) has
        by false c dead anew = is.new ps are pair rules (ap (λ b. not b || is_rebuilt pair) dead) has

    pub stays_sound : rule_count (record s1 { table = table }) ≤ s.capacity → IsSound (record s1 { table = table })
    stays_sound few = record {
      pairs = is.pairs;
      right = (
        ps,
        same_policies s (record s1 { table = table }) ps change.alike.participants refl refl but.read,
        rules_right,
      );
      few = few;
      tagged = carried_have_tags s r change.enough;
      kept = signatures_are_kept s r pooled;
    }

pub tables_stay_sound : TablesStaySound
tables_stay_sound s r is_rebuilt table change but is few = stays_sound s r change is_rebuilt but table is few

pub live_pairs_have_parts : LivePairsHaveParts
live_pairs_have_parts s r change pair live = part_kept s r change pair live

pub live_pairs_keep_parts : LivePairsKeepParts
live_pairs_keep_parts s r change pair before after = part_stays s r change pair before after
