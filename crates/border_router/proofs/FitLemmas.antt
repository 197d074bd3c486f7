-- The canonical message of a sound update is that of one whose numbers fit their types, and says the same news.
use Rattle.std.proofs.Common.{◌≡◌, Bool, ℕ, suc, ◌+◌, ◌/◌, ◌%◌, ◌<◌, ◌≤◌, List, [], ◌∷◌, ◌++◌, length, get_or, map, filter, flat_map, refl, sym, ap, subst, ◌∙◌, arith}
use Rattle.std.specs.Prelude.{Option, Some, None, nat_le, nat_lt, ◌&&◌}
use Rattle.std.specs.Option.{option_map}
use Rattle.net_types.specs.Octets.{address_octets, word}
use Rattle.net_types.specs.SoundUpdates.{HasSoundAttrs, IsSoundUpdate}
use Rattle.net_types.specs.UpdateSpelling.{Spells}
use Rattle.net_types.specs.Updates.{aggregator_octets, atomic_octets, attribute, attrs_octets, canonical, communities_octets, long, marker, med_octets, optional_attrs_octets, passed_on, prefixes_octets, segment_octets, unknown_octets, update_message, wide_octets}
use Rattle.net_types.specs.declared.prefix.Prefix.{Prefix}
use Rattle.net_types.specs.declared.route.Aggregator.{Aggregator}
use Rattle.net_types.specs.declared.route.Attrs.{Attrs}
use Rattle.net_types.specs.declared.route.Unknown.{Unknown}
use Rattle.net_types.specs.declared.update.Update.{Update}
use Rattle.bgp_update.specs.RoundTrip.{FitOptional, FitsAggregator, FitsMed}
use Rattle.border_router.specs.Hearing.{IsMessageOf, news_of}
use Rattle.net_types.specs.Sets.{Each}

-- the lowest 32 bits
abbrev fitted : ℕ → ℕ
fitted n = n % 4294967296

abbrev fit_attrs : Attrs → Attrs
fit_attrs a = record a { med = option_map fitted a.med; communities = map fitted a.communities }

abbrev pub fit : Update → Update
fit u = record u { attrs = option_map fit_attrs u.attrs }

-- ---- the same octets

same_long : (n : ℕ) → long (fitted n) ≡ long n
same_long n =
    let first : fitted n / 65536 / 256 % 256 ≡ n / 65536 / 256 % 256 = omega arith in
    let second : fitted n / 65536 % 256 ≡ n / 65536 % 256 = omega arith in
    let third : fitted n / 256 % 256 ≡ n / 256 % 256 = omega arith in
    let fourth : fitted n % 256 ≡ n % 256 = omega arith in
    λ i. first i ∷ second i ∷ third i ∷ fourth i ∷ []

same_longs : (ns : List ℕ) → flat_map long (map fitted ns) ≡ flat_map long ns
same_longs [] = refl
same_longs (n ∷ ns) = λ i. same_long n i ++ same_longs ns i

same_med : (med : Option ℕ) → med_octets (option_map fitted med) ≡ med_octets med
same_med None = refl
same_med (Some n) = ap (attribute 128 4) (same_long n)

same_communities : (partial : Bool) (cs : List ℕ) → communities_octets partial (map fitted cs) ≡ communities_octets partial cs
same_communities partial [] = refl
same_communities partial (c ∷ cs) = ap (attribute (passed_on partial) 8) (same_longs (c ∷ cs))

-- what stands in front of the aggregator
abbrev front : Attrs → List ℕ → List ℕ
front a med =
    unknown_octets (filter (λ (u : Unknown). nat_lt u.kind 1) a.unknown)
    ++ attribute 64 1 (a.origin ∷ []) ++ attribute 64 2 (flat_map segment_octets a.path) ++ attribute 64 3 (address_octets a.next_hop)
    ++ med ++ atomic_octets a.atomic

abbrev middle : Attrs → List ℕ
middle a = unknown_octets (filter (λ (u : Unknown). nat_le 1 u.kind && nat_lt u.kind 17) a.unknown)

abbrev highest : Attrs → List ℕ
highest a = unknown_octets (filter (λ (u : Unknown). nat_le 17 u.kind) a.unknown)

same_attrs : (a : Attrs) → attrs_octets (fit_attrs a) ≡ attrs_octets a
same_attrs a = λ i. front a (same_med a.med i) ++ aggregator_octets a.aggregator ++ same_communities a.communities_partial a.communities i ++ middle a ++ wide_octets a.path ++ highest a

same_optional : (at : Option Attrs) → optional_attrs_octets (option_map fit_attrs at) ≡ optional_attrs_octets at
same_optional None = refl
same_optional (Some a) = same_attrs a

same_canonical : (u : Update) → canonical (fit u) ≡ canonical u
same_canonical u = ap (λ attrs. update_message (prefixes_octets u.withdrawn) attrs (prefixes_octets u.announced)) (same_optional u.attrs)

-- ---- as sound as before

no_more : (ns : List ℕ) → map fitted ns ≡ [] → ns ≡ []
no_more [] e = refl
no_more (n ∷ ns) e = cc

fit_sound : (u : Update) → IsSoundUpdate u → IsSoundUpdate (fit u)
fit_sound u s = record { announced = s.announced; withdrawn = s.withdrawn; apart = s.apart; attrs = of_attrs u.announced u.attrs s.attrs }
  where
    of_attrs : (ps : List Prefix) (at : Option Attrs) → HasSoundAttrs ps at → HasSoundAttrs ps (option_map fit_attrs at)
    of_attrs [] None h = h
    of_attrs [] (Some a) h = h
    of_attrs (p ∷ ps) None h = h
    of_attrs (p ∷ ps) (Some a) h = record {
      origin = h.origin;
      path = h.path;
      next_hop = h.next_hop;
      aggregator = h.aggregator;
      partial = λ e. h.partial (no_more a.communities e);
      rising = h.rising;
      unknown = h.unknown;
    }

-- ---- in the ranges of their types

abbrev AreOctets : List ℕ → Type 0
AreOctets = Each (λ n. n < 256)

octets_from : (xs : List ℕ) → ((i : ℕ) → get_or xs i 0 < 256) → AreOctets xs
octets_from [] h = tt
octets_from (x ∷ xs) h = (h 0, octets_from xs (λ i. h (suc i)))

octets_left : (xs ys : List ℕ) → AreOctets (xs ++ ys) → AreOctets xs
octets_left [] ys h = tt
octets_left (x ∷ xs) ys h = (h.0, octets_left xs ys h.1)

octets_right : (xs ys : List ℕ) → AreOctets (xs ++ ys) → AreOctets ys
octets_right [] ys h = h
octets_right (x ∷ xs) ys h = octets_right xs ys h.1

fits_med : (med : Option ℕ) → FitsMed (option_map fitted med)
fits_med None = tt
fits_med (Some n) = omega arith

fits_each : (ns : List ℕ) → Each (λ n. n < 4294967296) (map fitted ns)
fits_each [] = tt
fits_each (n ∷ ns) = (omega arith, fits_each ns)

fits_aggregator : (aggregator : Option Aggregator) → AreOctets (aggregator_octets aggregator) → FitsAggregator aggregator
fits_aggregator None h = tt
fits_aggregator (Some a) h = let high : a.ip.0 / 16777216 < 256 = h.1.1.1.1.1.0 in omega arith

fits : (at : Option Attrs) → AreOctets (optional_attrs_octets at) → FitOptional (option_map fit_attrs at)
fits None h = tt
fits (Some a) h =
    let before : List ℕ = front a (med_octets a.med) in
    let own : List ℕ = aggregator_octets a.aggregator in
    let communities : List ℕ = communities_octets a.communities_partial a.communities in
    let known : List ℕ = before ++ own ++ communities in
    let known_octets : AreOctets known = octets_left known (middle a) (octets_left (known ++ middle a) (wide_octets a.path) (octets_left (known ++ middle a ++ wide_octets a.path) (highest a) h)) in
    record {
      med = fits_med a.med;
      aggregator = fits_aggregator a.aggregator (octets_right before own (octets_left (before ++ own) communities known_octets));
      communities = fits_each a.communities;
    }

attrs_among : (u : Update) → AreOctets (canonical u) → AreOctets (optional_attrs_octets u.attrs)
attrs_among u h =
    let withdrawn : List ℕ = prefixes_octets u.withdrawn in
    let attrs : List ℕ = optional_attrs_octets u.attrs in
    let announced : List ℕ = prefixes_octets u.announced in
    let before : List ℕ = marker ++ word (23 + length withdrawn + length attrs + length announced) ++ 2 ∷ word (length withdrawn) ++ withdrawn ++ word (length attrs) in
    octets_right before attrs (octets_left (before ++ attrs) announced h)

-- ---- the message

-- what is written is read
abbrev pub ReadBack : Type 0
ReadBack = (u : Update) → IsSoundUpdate u → FitOptional u.attrs → length (canonical u) ≤ 4096 → Spells (canonical u) u

pub spelt : ReadBack → (message : List ℕ) → ((i : ℕ) → get_or message i 0 < 256) → (u : Update) → IsMessageOf message u → Spells message (fit u)
spelt law message octets u m =
    let all : AreOctets (canonical u) = subst AreOctets m.is (octets_from message octets) in
    subst (λ b. Spells b (fit u)) (same_canonical u ∙ sym m.is) (law (fit u) (fit_sound u m.sound) (fits u.attrs (attrs_among u all)) (subst (λ b. length b ≤ 4096) (sym (same_canonical u)) m.short))

same_hop : (at : Option Attrs) → option_map (λ (a : Attrs). a.next_hop) (option_map fit_attrs at) ≡ option_map (λ (a : Attrs). a.next_hop) at
same_hop None = refl
same_hop (Some a) = refl

pub same_news : (u : Update) → news_of (fit u) ≡ news_of u
same_news u = λ i. record { withdrawn = u.withdrawn; announced = u.announced; next_hop = same_hop u.attrs i }

-- a sound update has a next hop where it announces
pub nothing_announced : (u : Update) → IsSoundUpdate u → option_map (λ (a : Attrs). a.next_hop) u.attrs ≡ None → u.announced ≡ []
nothing_announced u s = of u.announced u.attrs s.attrs
  where
    of : (ps : List Prefix) (at : Option Attrs) → HasSoundAttrs ps at → option_map (λ (a : Attrs). a.next_hop) at ≡ None → ps ≡ []
    of [] at h e = refl
    of (p ∷ ps) None h e = absurd h
    of (p ∷ ps) (Some a) h e = cc
