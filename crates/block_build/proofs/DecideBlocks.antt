-- What the rules of a sender, spread over its receivers, decide for headers.
use Rattle.std.proofs.Common.{◌≡◌, Bool, true, false, ◌&&◌, cond, Option, Some, None, unwrap_or, List, [], ◌∷◌, ◌++◌, map, refl, inl, inr, sym, ap, ◌∙◌}
use Rattle.std.specs.Prelude.{nat_eq}
use Rattle.std.specs.Option.{option_map}
use Rattle.std.proofs.lemmas.Bool.{cases_Bool}
use Rattle.classifier.proofs.DecideLemmas.{decide-add_lines, decide-append, decide-product, given_is, map_twice, total}
use Rattle.classifier.specs.Items.{Item, add_all}
use Rattle.classifier.specs.Lines.{line, product}
use Rattle.classifier.specs.Meaning.{decide, given, ends_with_everything}
use Rattle.classifier.specs.declared.join.Join.TheVariants.{Union}
use Rattle.classifier.specs.declared.line.Line.{Line}
use Rattle.net_types.specs.Cells.{freed_from}
use Rattle.net_types.specs.Cubes.{has, agrees, same_port, port_is}
use Rattle.net_types.specs.Prefixes.{covers}
use Rattle.net_types.specs.declared.address.Pid.{Pid}
use Rattle.net_types.specs.declared.address.PortNo.{PortNo}
use Rattle.net_types.specs.declared.cube.Cube.{Cube}
use Rattle.net_types.specs.declared.headers.Headers.{Headers}
use Rattle.net_types.specs.declared.route.Offer.{Offer}
use Rattle.block_build.specs.Gathered.{AreTotal, gathered, gathered_by}
use Rattle.block_build.specs.Offers.{goes_to, has_one_left}
use Rattle.block_build.specs.Receivers.{received_items, received_lines}
use Rattle.block_build.specs.Spreads.{restricted, beside, spread, within_rule, blocks}
use Rattle.block_build.specs.declared.receive.Receiver.{Receiver}

-- ---- a receiver's rules

pub decide-received : (hop : PortNo) (ys : List Line) (h : Headers) → decide (received_lines hop ys) h ≡ option_map (received_items hop) (decide ys h)
decide-received hop [] h = refl
decide-received hop (y ∷ ys) h = elim (cases_Bool (has y.cube h)) [
  | inl here ↦ rw here refl
  | inr apart ↦ rw apart (decide-received hop ys h)
]

pub given-received : (hop : PortNo) (ys : List Line) (h : Headers) → ends_with_everything ys ≡ true → given (received_lines hop ys) h ≡ received_items hop (given ys h)
given-received hop ys h t = ap (λ o. unwrap_or o []) (decide-received hop ys h ∙ ap (option_map (received_items hop)) (given_is ys h (total ys t h)))

pub ends-received : (hop : PortNo) (ys : List Line) → ends_with_everything (received_lines hop ys) ≡ ends_with_everything ys
ends-received hop [] = refl
ends-received hop (y ∷ []) = refl
ends-received hop (y ∷ (z ∷ ys)) = ends-received hop (z ∷ ys)

-- ---- the sender's rules at a port

-- the headers agree with the cube in all but the port
abbrev pub agrees_besides : Cube → Headers → Bool
agrees_besides c h = covers c.src h.src && (covers c.dst h.dst && (agrees nat_eq c.proto h.proto && (agrees port_is c.sport h.sport && agrees port_is c.dport h.dport)))

decide-freed : (port : PortNo) (c : Cube) (items : List Item) (xs : List Line) (h : Headers) → h.inport ≡ port → (wanted : Option PortNo) → c.inport ≡ wanted
    → decide (map (line items) (freed_from port c wanted) ++ xs) h ≡ cond (agrees same_port wanted h.inport && agrees_besides c h) (Some items) (decide xs h)
unfolding has
decide-freed port c items xs h e None w = ap (λ o. cond (agrees same_port o h.inport && agrees_besides c h) (Some items) (decide xs h)) w
decide-freed port c items xs h e (Some q) w = elim (cases_Bool (nat_eq q.0 port.0)) [
  | inl mine ↦ rw (ap (λ (p : PortNo). nat_eq q.0 p.0) e, mine) refl
  | inr other ↦ rw (ap (λ (p : PortNo). nat_eq q.0 p.0) e, other) refl
]

has-fields : (c : Cube) (h : Headers) → has c h ≡ (agrees same_port c.inport h.inport && agrees_besides c h)
unfolding has
has-fields c h = refl

pub decide-restricted : (port : PortNo) (xs : List Line) (h : Headers) → h.inport ≡ port → decide (restricted port xs) h ≡ decide xs h
decide-restricted port [] h e = refl
decide-restricted port (x ∷ xs) h e =
    decide-freed port x.cube x.results (restricted port xs) h e x.cube.inport refl
    ∙ ap (λ b. cond b (Some x.results) (decide (restricted port xs) h)) (sym (has-fields x.cube h))
    ∙ ap (λ o. cond (has x.cube h) (Some x.results) o) (decide-restricted port xs h e)

-- ---- the sender's rules, spread over receivers

map_id : {A : Type 0} (o : Option A) → o ≡ option_map (λ x. x) o
map_id (Some x) = refl
map_id None = refl

decide-beside : (xs ys : List Line) (h : Headers) → ends_with_everything ys ≡ true → decide (beside xs ys) h ≡ option_map (λ kept. add_all kept (given ys h)) (decide xs h)
decide-beside xs ys h t = decide-add_lines [] (product Union xs ys) h ∙ decide-product Union xs ys h (given ys h) (given_is ys h (total ys t h))

decide-spread : (left : Bool) (best : Pid) (items : List Item) (xs : List Line) (rs : List Receiver) (h : Headers) → AreTotal rs
    → decide (spread left best items xs rs) h ≡ option_map (λ kept. gathered left best items h kept rs) (decide xs h)
decide-spread left best items xs [] h all = map_id (decide xs h)
decide-spread left best items xs (r ∷ rs) h all = of (λ zs. decide-spread left best items zs rs h (λ q k. all q (inr k))) (goes_to left best items r.who)
  where
    of : ((zs : List Line) → decide (spread left best items zs rs) h ≡ option_map (λ kept. gathered left best items h kept rs) (decide zs h)) → (b : Bool)
        → decide (spread left best items (cond b (beside xs r.lines) xs) rs) h ≡ option_map (λ kept. gathered left best items h (cond b (add_all kept (given r.lines h)) kept) rs) (decide xs h)
    of rest true =
        rest (beside xs r.lines)
        ∙ ap (option_map (λ kept. gathered left best items h kept rs)) (decide-beside xs r.lines h (all r (inl refl)))
        ∙ map_twice (λ kept. gathered left best items h kept rs) (λ kept. add_all kept (given r.lines h)) (decide xs h)
    of rest false = rest xs

pub decide-blocks : (best : Pid) (offers : List Offer) (rs : List Receiver) (xs : List Line) (h : Headers) → AreTotal rs
    → decide (blocks best offers rs xs) h ≡ option_map (gathered_by best offers rs h) (decide xs h)
decide-blocks best offers rs [] h all = refl
decide-blocks best offers rs (x ∷ xs) h all =
    decide-append (within_rule best offers rs x) (blocks best offers rs xs) h
    ∙ rw (decide-spread (has_one_left offers x.results) best x.results (line [] x.cube ∷ []) rs h all, decide-blocks best offers rs xs h all) (elim (cases_Bool (has x.cube h)) [
      | inl here ↦ rw here refl
      | inr apart ↦ rw apart refl
    ])
