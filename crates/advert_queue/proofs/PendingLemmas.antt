-- The tags that were told, and the messages of what is present, are those of a state.
use Rattle.std.proofs.Common.{◌≡◌, ℕ, Bool, List, map, ap, ◌∙◌, refl}
use Rattle.std.specs.Prelude.{Option, Some, None}
use Rattle.std.specs.FinMap.{FinMap, get, values}
use Rattle.std.specs.List.{list_any}
use Rattle.std.specs.Ordering.{eq_by_cmp}
use Rattle.net_types.proofs.OrderedLemmas.{any_ordered}
use Rattle.events.specs.Fits.{advert, adverts as adverts_of}
use Rattle.events.specs.State.{State, present as present_of}
use Rattle.net_types.specs.declared.address.Pid.{Pid}
use Rattle.events.specs.declared.Entry.{Entry}
use Rattle.events.specs.Tags.{same_tag, tells}
use Rattle.net_types.proofs.OrderLemmas.{tags_total}
use Rattle.net_types.proofs.PassLemmas.{any_map}
use Rattle.net_types.proofs.TieLemmas.{nat_ties, tag_tie}
use Rattle.net_types.specs.Keys.{prefix_cmp, tag_cmp}
use Rattle.net_types.specs.declared.address.Tag.{Tag}
use Rattle.net_types.specs.declared.prefix.Prefix.{Prefix}
use Rattle.advert_queue.specs.Telling.{advert_with, adverts, tags_of}

-- ---- tags

tag_ties : (t u : Tag) → eq_by_cmp tag_cmp t u ≡ same_tag u t
tag_ties t u = nat_ties t.0 u.0

-- a tag is told where it stands among the tags
pub told_among : (m : FinMap prefix_cmp Entry) (t : Tag) → list_any (eq_by_cmp tag_cmp t) (tags_of m) ≡ tells m t
told_among m t =
    let all = map (λ (e : Entry). e.tag) (values m) in
    any_ordered tag_cmp tags_total tag_tie t all
    ∙ ap (λ (f : Tag → Bool). list_any f all) (λ i u. tag_ties t u i)
    ∙ any_map (λ u. same_tag u t) (λ (e : Entry). e.tag) (values m)

-- ---- messages

-- an advert in a state is one with its base address
pub advert-state : (s : State) (p : Prefix) (o : Option Entry) → advert s p o ≡ advert_with s.base p o
advert-state s p None = refl
advert-state s p (Some entry) = refl

-- the messages of a state to a participant say what is present for it
pub adverts-state : (s : State) (who : Pid) (ps : List Prefix) → adverts_of s who ps ≡ adverts s.base (present_of s who) ps
adverts-state s who ps = ap (λ (f : Prefix → List ℕ). map f ps) (λ i p. advert-state s p (get (present_of s who) p) i)
