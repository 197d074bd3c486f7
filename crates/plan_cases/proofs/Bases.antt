-- Where lines build on a state, they build on it with another policy of a participant.
use Rattle.std.proofs.Common.{◌≡◌, ℕ, true, false, cond, nat_eq, List, filter, sym, ap, ◌∙◌, refl}
use Rattle.std.specs.Prelude.{Some, slice_set, unwrap_or}
use Rattle.std.specs.FinMap.{get}
use Rattle.std.specs.Option.{option_map, option_map_or}
use Rattle.std.proofs.lemmas.Bool.{eq-eqb}
use Rattle.events.proofs.Reached.{set_length}
use Rattle.events.specs.Fits.{is_receivers, is_senders, none_rebuilt}
use Rattle.events.specs.Sound.{owners_part}
use Rattle.events.specs.State.{State, ArePolicies, IsRead}
use Rattle.exchange_laws.proofs.Bases.{kept_there, kept_whole, owners_from, owners_trimmed, trimmed_tagged}
use Rattle.exchange_laws.proofs.Lists.{clash}
use Rattle.exchange_laws.proofs.OwnHops.{none_passes}
use Rattle.exchange_laws.proofs.Parts.{right_alike}
use Rattle.exchange_laws.proofs.PassedSteps.{set_read}
use Rattle.exchange_laws.proofs.Trimmed.{other_place}
use Rattle.exchange_laws.specs.Editing.{IsBase, inbound_base, outbound_base}
use Rattle.exchange_laws.specs.Rules.{IsRightAt}
use Rattle.net_types.specs.Answers.{Policies, is_offered, policy_of}
use Rattle.net_types.specs.Policies.{Drop, Policy}
use Rattle.net_types.specs.Signatures.{trimmed_part, counts}
use Rattle.net_types.specs.declared.address.Pid.{Pid}
use Rattle.net_types.specs.declared.route.Offer.{Offer}
use Rattle.net_types.specs.declared.route.Part.{Part}
use Rattle.net_types.specs.declared.route.PortInfo.{PortInfo}
use Rattle.net_types.specs.declared.rule.Pair.{Pair}
use Rattle.net_types.specs.declared.rule.Rule.{Rule}

-- the policies of others stay
other_policy : (policies : List Policy) (who other : Pid) (p : Policy) → nat_eq other.0 who.0 ≡ false → policy_of policies other ≡ policy_of (slice_set policies who.0 p) other
other_policy policies who other p apart = ap (λ o. unwrap_or o Drop) (sym (other_place policies who.0 other.0 p (λ e. clash (eq-eqb other.0 who.0 (sym e)) apart)))

-- the part of another sender isn't trimmed
not_trimmed : (who : Pid) (named : List Pid) (part : Part) → nat_eq part.sender.0 who.0 ≡ false → trimmed_part who named part ≡ part
not_trimmed who named part other = ap (λ b. cond b (record part { offers = filter (λ (o : Offer). counts named part.best o.exporter) part.offers }) part) other

module _ (s : State) (base : IsBase s none_rebuilt) (who : Pid) (text : List ℕ) (p : Policy) (is : IsRead text p) where
  abbrev old : Policies
  old = base.right.policies

  -- the best participant of a part that is kept is among its offers
  best_offered : (pair : Pair) (part : Part) → owners_part s pair ≡ Some part → is_offered part.offers part.best ≡ true
  best_offered pair part e = let own = owners_from s pair part e in (base.whole pair.tag own.kept own.keeps part own.stands).best

  -- ---- another inbound policy

  abbrev receiving : Policies
  receiving = record old { inbound = slice_set old.inbound who.0 p }

  are_receiving : ArePolicies (inbound_base s who text) receiving
  are_receiving = record {
    names = base.right.read.names;
    outbound = base.right.read.outbound;
    inbound = set_read s.inbound old.inbound who.0 text p base.right.read.inbound is;
  }

  -- rules stay right whose part the receiver doesn't offer
  received_right : (pair : Pair) (rules : List Rule) → is_receivers s who pair ≡ false → get s.table pair ≡ Some rules → IsRightAt receiving (inbound_base s who text) pair rules
  received_right pair rules other has =
      let right = base.right.right pair rules refl has in
      let part : Part = right.0 in
      let none : is_offered part.offers who ≡ false = sym (ap (λ o. option_map_or (λ (x : Part). is_offered x.offers who) o false) right.1) ∙ other in (
        part,
        right.1,
        right_alike old receiving part pair.port rules refl refl (λ o m. other_policy old.inbound who o.exporter p (none_passes (λ (x : Offer). nat_eq x.exporter.0 who.0) part.offers none o m)) (best_offered pair part right.1) right.2,
      )

  pub received_base : IsBase (inbound_base s who text) (is_receivers s who)
  received_base = record {
    tagged = record { pairs = base.tagged.pairs; parts = base.tagged.parts; tagged = base.tagged.tagged; kept = base.tagged.kept };
    right = record { policies = receiving; read = are_receiving; right = received_right };
    few = base.few;
    pooled = base.pooled;
    kept = base.kept;
    live = base.live;
    whole = base.whole;
    owners = base.owners;
    routed = base.routed;
    hops = base.hops;
    told = base.told;
    outbound = base.outbound;
    inbound = set_length s.inbound who.0 text ∙ base.inbound;
    named = base.named;
    apart = base.apart;
    numbered = base.numbered;
    idle = base.idle;
    sized = record { start = base.sized.start; small = base.sized.small; low = base.sized.low; high = base.sized.high; room = base.sized.room };
  }

  -- ---- another outbound policy

  module _ (named : List Pid) where
    abbrev sent : State
    sent = outbound_base s who text named

    abbrev sending : Policies
    sending = record old { outbound = slice_set old.outbound who.0 p }

    are_sending : ArePolicies sent sending
    are_sending = record {
      names = base.right.read.names;
      outbound = set_read s.outbound old.outbound who.0 text p base.right.read.outbound is;
      inbound = base.right.read.inbound;
    }

    -- rules of ports that aren't the sender's stay right, for a part that isn't trimmed
    sent_right : (pair : Pair) (rules : List Rule) → is_senders s who pair ≡ false → get s.table pair ≡ Some rules → IsRightAt sending sent pair rules
    sent_right pair rules other has =
        let right = base.right.right pair rules refl has in
        let part : Part = right.0 in
        let own = owners_from s pair part right.1 in
        let apart : nat_eq part.sender.0 who.0 ≡ false =
        ap (λ n. nat_eq n who.0) own.owner ∙ sym (ap (λ o. option_map_or (λ (q : PortInfo). nat_eq q.owner.0 who.0) o false) own.at) ∙ other in (
          part,
          owners_trimmed s who text named pair ∙ ap (option_map (trimmed_part who named)) right.1 ∙ ap Some (not_trimmed who named part apart),
          right_alike old sending part pair.port rules refl (other_policy old.outbound who part.sender p apart) (λ o m. refl) (best_offered pair part right.1) right.2,
        )

    pub sent_base : IsBase sent (is_senders s who)
    sent_base = record {
      tagged = trimmed_tagged s who text named base.tagged;
      right = record { policies = sending; read = are_sending; right = sent_right };
      few = base.few;
      pooled = base.pooled;
      kept = λ t there. base.kept t (sym (kept_there s who text named t) ∙ there);
      live = λ t live. kept_there s who text named t ∙ base.live t live;
      whole = kept_whole s who text named base.whole;
      owners = base.owners;
      routed = base.routed;
      hops = base.hops;
      told = base.told;
      outbound = set_length s.outbound who.0 text ∙ base.outbound;
      inbound = base.inbound;
      named = set_length s.routing.named who.0 _ ∙ base.named;
      apart = base.apart;
      numbered = base.numbered;
      idle = base.idle;
      sized = record { start = base.sized.start; small = base.sized.small; low = base.sized.low; high = base.sized.high; room = base.sized.room };
    }
