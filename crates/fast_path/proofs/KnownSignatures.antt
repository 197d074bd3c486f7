-- Signatures as they are known by whom a policy names.
use Rattle.std.proofs.Common.{◌≡◌, Bool, true, false, cond, List, [], ◌∷◌, filter, map, nat_eq, sym, ap, ◌∙◌, refl}
use Rattle.std.specs.Prelude.{Option, Some, None}
use Rattle.std.specs.FinMap.{get}
use Rattle.std.specs.Option.{option_and_then, option_map}
use Rattle.events.specs.Sound.{part_of}
use Rattle.events.specs.State.{first}
use Rattle.exchange_laws.proofs.Bases.{get_trimmed}
use Rattle.fast_path.specs.Grouping.{Known, known_by, part_by}
use Rattle.net_types.specs.Attributes.{same_option, same_signature}
use Rattle.net_types.specs.Signatures.{counts}
use Rattle.net_types.specs.declared.address.Pid.{Pid}
use Rattle.net_types.specs.declared.address.Tag.{Tag}
use Rattle.net_types.specs.declared.route.Offer.{Offer}
use Rattle.net_types.specs.declared.route.Part.{Part}
use Rattle.prefix_classes.specs.Classes.{Classes}

-- the names of a line
abbrev pub Names : Type 0
Names = Option (Pid × List Pid)

pub same_parts : (sig : List Part) → map (part_by None) sig ≡ sig
same_parts [] = refl
same_parts (part ∷ sig) = ap (λ parts. part ∷ parts) (same_parts sig)

-- the signature of a tag, each part without the offers that don't count
pub known_kept : (named : Names) (c : Classes) (t : Tag) → get (known_by named c).kept t ≡ option_map (map (part_by named)) (get c.kept t)
known_kept None c t = by (get c.kept t)
  where
    by : (o : Option (List Part)) → o ≡ option_map (map (part_by None)) o
    by None = refl
    by (Some sig) = ap Some (sym (same_parts sig))
known_kept (Some (who, named)) c t = get_trimmed (record first { kept = c.kept }) who named t

pub sender_stays : (named : Names) (part : Part) → (part_by named part).sender ≡ part.sender
sender_stays None part = refl
sender_stays (Some (who, named)) part = by (nat_eq part.sender.0 who.0)
  where
    by : (b : Bool) → (cond b (record part { offers = filter (λ (o : Offer). counts named part.best o.exporter) part.offers }) part).sender ≡ part.sender
    by true = refl
    by false = refl

-- the part of a participant is the one that it had
pub part_known : (named : Names) (who : Pid) (sig : List Part) → part_of (map (part_by named) sig) who ≡ option_map (part_by named) (part_of sig who)
part_known named who [] = refl
part_known named who (part ∷ sig) =
    ap (λ (p : Pid). cond (nat_eq p.0 who.0) (Some (part_by named part)) (part_of (map (part_by named) sig) who)) (sender_stays named part)
    ∙ ap (λ o. cond (nat_eq part.sender.0 who.0) (Some (part_by named part)) o) (part_known named who sig)
    ∙ by (nat_eq part.sender.0 who.0)
  where
    by : (b : Bool) → cond b (Some (part_by named part)) (option_map (part_by named) (part_of sig who)) ≡ option_map (part_by named) (cond b (Some part) (part_of sig who))
    by true = refl
    by false = refl

-- ---- what is found in the signature of a tag

-- the part of a participant
pub part_in_known : (named : Names) (c : Classes) (t : Tag) (who : Pid) → option_and_then (λ sig. part_of sig who) (get (known_by named c).kept t) ≡ option_and_then (λ sig. option_map (part_by named) (part_of sig who)) (get c.kept t)
part_in_known named c t who = ap (option_and_then (λ sig. part_of sig who)) (known_kept named c t) ∙ by (get c.kept t)
  where
    by : (o : Option (List Part)) → option_and_then (λ sig. part_of sig who) (option_map (map (part_by named)) o) ≡ option_and_then (λ sig. option_map (part_by named) (part_of sig who)) o
    by None = refl
    by (Some sig) = part_known named who sig

-- whether a signature is the one that is kept for a tag
pub kept_known : (named : Names) (c : Classes) (k : Known) (tag : Option Tag) (t : Tag) (kept : Option (List Part)) (sig : List Part) → known_by named c ≡ k → tag ≡ Some t → get c.kept t ≡ kept → same_option same_signature (option_and_then (get k.kept) tag) (Some sig) ≡ same_option same_signature (option_map (map (part_by named)) kept) (Some sig)
kept_known named c k tag t kept sig is has at =
    ap (λ o. same_option same_signature (option_and_then (get k.kept) o) (Some sig)) has
    ∙ ap (λ (j : Known). same_option same_signature (get j.kept t) (Some sig)) (sym is)
    ∙ ap (λ o. same_option same_signature o (Some sig)) (known_kept named c t ∙ ap (option_map (map (part_by named))) at)
