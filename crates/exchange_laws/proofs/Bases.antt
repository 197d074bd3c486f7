-- Lines build on a steady state, and on one with another policy of a participant.
use Rattle.events.proofs.Reached.{set_length}
use Rattle.std.proofs.Common.{◌≡◌, ℕ, Bool, true, false, cond, nat_eq, List, [], ◌∷◌, filter, length, sym, ap, subst, ◌∙◌, refl}
use Rattle.std.specs.Prelude.{Option, Some, None, is_some, slice_set, unwrap_or}
use Rattle.std.specs.FinMap.{get, keys}
use Rattle.std.specs.Option.{option_and_then, option_map, option_map_or}
use Rattle.std.proofs.lemmas.Bool.{eq-eqb, eqb-true}
use Rattle.events.specs.After.{trimmed_kept}
use Rattle.events.specs.Fits.{is_receivers, is_senders, none_rebuilt}
use Rattle.events.specs.Sound.{owners_part, part_of}
use Rattle.events.specs.State.{State, ArePolicies, IsRead, port_of}
use Rattle.exchange_laws.proofs.Lists.{clash, get_tabulated, key_Member}
use Rattle.exchange_laws.proofs.OwnHops.{none_passes}
use Rattle.exchange_laws.proofs.Parts.{right_alike, trimmed_whole}
use Rattle.exchange_laws.proofs.RulesAfter.{sound_tagged}
use Rattle.exchange_laws.proofs.Trimmed.{other_place, trimmed_signature}
use Rattle.exchange_laws.proofs.PassedSteps.{set_read}
use Rattle.exchange_laws.specs.Editing.{InboundBases, IsBase, OutboundBases, SteadyAreBases, inbound_base, outbound_base}
use Rattle.exchange_laws.specs.Rules.{IsRightAt, IsTagged}
use Rattle.exchange_laws.specs.Steady.{IsSteady}
use Rattle.exchange_laws.specs.Whole.{IsWhole, KeptAreWhole}
use Rattle.net_types.proofs.FindLemmas.{find-IsFound, is_some-map}
use Rattle.net_types.proofs.OrderLemmas.{tags_total}
use Rattle.net_types.proofs.SetLemmas.{map-Member}
use Rattle.net_types.proofs.TieLemmas.{tag_tie}
use Rattle.net_types.specs.Answers.{Policies, is_offered, policy_of}
use Rattle.net_types.specs.Exports.{pid_of}
use Rattle.net_types.specs.Keys.{tag_cmp}
use Rattle.net_types.specs.Naming.{named_in}
use Rattle.net_types.specs.Policies.{Policy, Drop}
use Rattle.net_types.specs.Sets.{Member}
use Rattle.net_types.specs.Signatures.{counts, trimmed, trimmed_part}
use Rattle.net_types.specs.declared.address.Pid.{Pid}
use Rattle.net_types.specs.declared.address.Tag.{Tag}
use Rattle.net_types.specs.declared.route.Offer.{Offer}
use Rattle.net_types.specs.declared.route.Part.{Part}
use Rattle.net_types.specs.declared.route.PortInfo.{PortInfo}
use Rattle.net_types.specs.declared.rule.Pair.{Pair}
use Rattle.net_types.specs.declared.rule.Rule.{Rule}
use Rattle.std.proofs.lemmas.Option.{same_Some}

-- ---- the owner's part

-- where the part of a pair's owner is from
pub record IsOwnersPart (s : State) (pair : Pair) (part : Part) : Type 0 where
  pub port : PortInfo
  pub kept : List Part
  pub at : port_of s pair.port ≡ Some port
  pub keeps : get s.kept pair.tag ≡ Some kept
  pub stands : Member part kept
  pub owner : part.sender.0 ≡ port.owner.0

pub owners_from : (s : State) (pair : Pair) (part : Part) → owners_part s pair ≡ Some part → IsOwnersPart s pair part
owners_from s pair part e = by (port_of s pair.port) (get s.kept pair.tag) refl refl e
  where
    by : (o : Option PortInfo) (k : Option (List Part)) → port_of s pair.port ≡ o → get s.kept pair.tag ≡ k
        → option_and_then (λ (q : PortInfo). option_and_then (λ sig. part_of sig q.owner) k) o ≡ Some part → IsOwnersPart s pair part
    by None k at keeps e = absurd (cc)
    by (Some q) None at keeps e = absurd (cc)
    by (Some q) (Some sig) at keeps e =
        let found = find-IsFound (λ (x : Part). nat_eq x.sender.0 q.owner.0) sig part e in
        record { port = q; kept = sig; at = at; keeps = keeps; stands = found.stands; owner = eqb-true part.sender.0 q.owner.0 found.passes }

-- ---- another text of one participant

-- the policies of others stay
other_policy : (policies : List Policy) (who other : Pid) (p : Policy) → nat_eq other.0 who.0 ≡ false → policy_of policies other ≡ policy_of (slice_set policies who.0 p) other
other_policy policies who other p apart = ap (λ o. unwrap_or o Drop) (sym (other_place policies who.0 other.0 p (λ e. clash (eq-eqb other.0 who.0 (sym e)) apart)))

-- ---- a steady state

module _ (s : State) (steady : IsSteady s) where
  abbrev ps : Policies
  ps = steady.sound.right.0

  tagged : IsTagged s
  tagged = sound_tagged s steady.sound

  -- the best participant of a part that is kept is among its offers
  best_offered : (pair : Pair) (part : Part) → owners_part s pair ≡ Some part → is_offered part.offers part.best ≡ true
  best_offered pair part e = let own = owners_from s pair part e in (steady.whole pair.tag own.kept own.keeps part own.stands).best

  pub base : IsBase s none_rebuilt
  base = record {
    tagged = tagged;
    right = record { policies = ps; read = steady.sound.right.1; right = λ pair rules kept has. steady.sound.right.2 pair rules has };
    few = steady.sound.few;
    pooled = steady.pooled;
    kept = steady.kept;
    live = steady.live;
    whole = steady.whole;
    owners = steady.owners;
    routed = steady.routed;
    hops = steady.hops;
    told = steady.told;
    outbound = steady.policies.outbound;
    inbound = steady.policies.inbound;
    named = steady.policies.named;
    apart = steady.apart;
    numbered = steady.numbered;
    idle = steady.idle;
    sized = steady.sized;
  }

  -- ---- another inbound policy

  module _ (who : Pid) (text : List ℕ) (p : Policy) (is : IsRead text p) where
    abbrev received : State
    received = inbound_base s who text

    abbrev receiving : Policies
    receiving = record ps { inbound = slice_set ps.inbound who.0 p }

    are_receiving : ArePolicies received receiving
    are_receiving = record {
      names = steady.sound.right.1.names;
      outbound = steady.sound.right.1.outbound;
      inbound = set_read s.inbound ps.inbound who.0 text p steady.sound.right.1.inbound is;
    }

    -- rules stay right whose part the receiver doesn't offer
    received_right : (pair : Pair) (rules : List Rule) → is_receivers s who pair ≡ false → get s.table pair ≡ Some rules → IsRightAt receiving received pair rules
    received_right pair rules other has =
        let right = steady.sound.right.2 pair rules has in
        let part : Part = right.0 in
        let none : is_offered part.offers who ≡ false = sym (ap (λ o. option_map_or (λ (x : Part). is_offered x.offers who) o false) right.1) ∙ other in (
          part,
          right.1,
          right_alike ps receiving part pair.port rules refl refl (λ o m. other_policy ps.inbound who o.exporter p (none_passes (λ (x : Offer). nat_eq x.exporter.0 who.0) part.offers none o m)) (best_offered pair part right.1) right.2,
        )

    pub received_base : IsBase received (is_receivers s who)
    received_base = record {
      tagged = record { pairs = tagged.pairs; parts = tagged.parts; tagged = tagged.tagged; kept = tagged.kept };
      right = record { policies = receiving; read = are_receiving; right = received_right };
      few = steady.sound.few;
      pooled = steady.pooled;
      kept = steady.kept;
      live = steady.live;
      whole = steady.whole;
      owners = steady.owners;
      routed = steady.routed;
      hops = steady.hops;
      told = steady.told;
      outbound = steady.policies.outbound;
      inbound = set_length s.inbound who.0 text ∙ steady.policies.inbound;
      named = steady.policies.named;
      apart = steady.apart;
      numbered = steady.numbered;
      idle = steady.idle;
      sized = record { start = steady.sized.start; small = steady.sized.small; low = steady.sized.low; high = steady.sized.high; room = steady.sized.room };
    }

-- ---- kept signatures that are trimmed

-- a part has the sender that it had
pub trimmed_sender : (who : Pid) (named : List Pid) (part : Part) → (trimmed_part who named part).sender ≡ part.sender
trimmed_sender who named part = by (nat_eq part.sender.0 who.0)
  where
    by : (b : Bool) → (cond b (record part { offers = filter (λ (o : Offer). counts named part.best o.exporter) part.offers }) part).sender ≡ part.sender
    by true = refl
    by false = refl

-- the part of another sender isn't trimmed
not_trimmed : (who : Pid) (named : List Pid) (part : Part) → nat_eq part.sender.0 who.0 ≡ false → trimmed_part who named part ≡ part
not_trimmed who named part other = ap (λ b. cond b (record part { offers = filter (λ (o : Offer). counts named part.best o.exporter) part.offers }) part) other

pub trimmed_found : (who : Pid) (named : List Pid) (sig : List Part) (to : Pid) → part_of (trimmed who named sig) to ≡ option_map (trimmed_part who named) (part_of sig to)
trimmed_found who named [] to = refl
trimmed_found who named (x ∷ xs) to =
    ap (λ (from : Pid). cond (nat_eq from.0 to.0) (Some (trimmed_part who named x)) (part_of (trimmed who named xs) to)) (trimmed_sender who named x)
    ∙ by (nat_eq x.sender.0 to.0) (trimmed_found who named xs to)
  where
    by : (b : Bool) → part_of (trimmed who named xs) to ≡ option_map (trimmed_part who named) (part_of xs to)
        → cond b (Some (trimmed_part who named x)) (part_of (trimmed who named xs) to) ≡ option_map (trimmed_part who named) (cond b (Some x) (part_of xs to))
    by true later = refl
    by false later = later

-- each kept signature is the one before, trimmed
pub get_trimmed : (s : State) (who : Pid) (named : List Pid) (t : Tag) → get (trimmed_kept s who named) t ≡ option_map (trimmed who named) (get s.kept t)
get_trimmed s who named t = get_tabulated tag_cmp tags_total tag_tie (λ u. option_map (trimmed who named) (get s.kept u)) (keys s.kept) (λ u there.
    key_Member tag_cmp tags_total tag_tie s.kept u (sym (is_some-map (trimmed who named) (get s.kept u)) ∙ there)) t

module _ (s : State) (who : Pid) (text : List ℕ) (named : List Pid) where
  abbrev pub sent : State
  sent = outbound_base s who text named

  -- so is each owner's part
  pub owners_trimmed : (pair : Pair) → owners_part sent pair ≡ option_map (trimmed_part who named) (owners_part s pair)
  owners_trimmed pair =
      ap (λ k. option_and_then (λ (q : PortInfo). option_and_then (λ sig. part_of sig q.owner) k) (port_of s pair.port)) (get_trimmed s who named pair.tag)
      ∙ by (port_of s pair.port) (get s.kept pair.tag)
    where
      by : (o : Option PortInfo) (k : Option (List Part)) → option_and_then (λ (q : PortInfo). option_and_then (λ sig. part_of sig q.owner) (option_map (trimmed who named) k)) o
          ≡ option_map (trimmed_part who named) (option_and_then (λ (q : PortInfo). option_and_then (λ sig. part_of sig q.owner) k) o)
      by None k = refl
      by (Some q) None = refl
      by (Some q) (Some sig) = trimmed_found who named sig q.owner

  pub kept_there : (t : Tag) → is_some (get sent.kept t) ≡ is_some (get s.kept t)
  kept_there t = ap is_some (get_trimmed s who named t) ∙ is_some-map (trimmed who named) (get s.kept t)

  pub kept_whole : KeptAreWhole s → KeptAreWhole sent
  kept_whole whole t sig keeps part stands = by (get s.kept t) refl (sym (get_trimmed s who named t) ∙ keeps)
    where
      by : (o : Option (List Part)) → get s.kept t ≡ o → option_map (trimmed who named) o ≡ Some sig → IsWhole (length s.routing.participants) part
      by None kept e = absurd (cc)
      by (Some old) kept e =
          let image = map-Member (trimmed_part who named) old part (subst (Member part) (sym (same_Some (trimmed who named old) sig e)) stands) in
          subst (IsWhole (length s.routing.participants)) (sym image.is) (trimmed_whole (length s.routing.participants) who named image.of (whole t old kept image.of image.stands))

  pub trimmed_tagged : IsTagged s → IsTagged sent
  trimmed_tagged tagged = record {
    pairs = tagged.pairs;
    parts = λ pair live. ap is_some (owners_trimmed pair) ∙ is_some-map (trimmed_part who named) (owners_part s pair) ∙ tagged.parts pair live;
    tagged = tagged.tagged;
    kept = λ p t has. get_trimmed s who named t ∙ ap (option_map (trimmed who named)) (tagged.kept p t has) ∙ ap Some (trimmed_signature s.routing who named p);
  }

-- ---- another outbound policy

module _ (s : State) (steady : IsSteady s) (who : Pid) (text : List ℕ) (p : Policy) (is : IsRead text p) (named : List Pid) where
  abbrev old : Policies
  old = steady.sound.right.0

  abbrev sending : Policies
  sending = record old { outbound = slice_set old.outbound who.0 p }

  are_sending : ArePolicies (sent s who text named) sending
  are_sending = record {
    names = steady.sound.right.1.names;
    outbound = set_read s.outbound old.outbound who.0 text p steady.sound.right.1.outbound is;
    inbound = steady.sound.right.1.inbound;
  }

  -- rules of ports that aren't the sender's stay right, for a part that isn't trimmed
  sent_right : (pair : Pair) (rules : List Rule) → is_senders s who pair ≡ false → get s.table pair ≡ Some rules → IsRightAt sending (sent s who text named) pair rules
  sent_right pair rules other has =
      let right = steady.sound.right.2 pair rules has in
      let part : Part = right.0 in
      let own = owners_from s pair part right.1 in
      let apart : nat_eq part.sender.0 who.0 ≡ false =
      ap (λ n. nat_eq n who.0) own.owner ∙ sym (ap (λ o. option_map_or (λ (q : PortInfo). nat_eq q.owner.0 who.0) o false) own.at) ∙ other in (
        part,
        owners_trimmed s who text named pair ∙ ap (option_map (trimmed_part who named)) right.1 ∙ ap Some (not_trimmed who named part apart),
        right_alike old sending part pair.port rules refl (other_policy old.outbound who part.sender p apart) (λ o m. refl) (best_offered s steady pair part right.1) right.2,
      )

  pub sent_base : IsBase (sent s who text named) (is_senders s who)
  sent_base = record {
    tagged = trimmed_tagged s who text named (tagged s steady);
    right = record { policies = sending; read = are_sending; right = sent_right };
    few = steady.sound.few;
    pooled = steady.pooled;
    kept = λ t there. steady.kept t (sym (kept_there s who text named t) ∙ there);
    live = λ t live. kept_there s who text named t ∙ steady.live t live;
    whole = kept_whole s who text named steady.whole;
    owners = steady.owners;
    routed = steady.routed;
    hops = steady.hops;
    told = steady.told;
    outbound = set_length s.outbound who.0 text ∙ steady.policies.outbound;
    inbound = steady.policies.inbound;
    named = set_length s.routing.named who.0 _ ∙ steady.policies.named;
    apart = steady.apart;
    numbered = steady.numbered;
    idle = steady.idle;
    sized = record { start = steady.sized.start; small = steady.sized.small; low = steady.sized.low; high = steady.sized.high; room = steady.sized.room };
  }

pub steady_are_bases : SteadyAreBases
steady_are_bases s steady = base s steady

pub inbound_bases : InboundBases
inbound_bases s who text p steady declared is = received_base s steady who text p is

pub outbound_bases : OutboundBases
outbound_bases s who text p steady declared is = sent_base s steady who text p is (named_in (pid_of s.routing) p)
