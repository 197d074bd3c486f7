-- Replies and lists of replies are told by their texts.
use Rattle.std.proofs.Common.{◌≡◌, ℕ, ◌<◌, true, List, [], ◌∷◌, ◌++◌, append_assoc, flat_map, codes, decimal, refl, sym, ap, ◌∙◌, subst, arith}
use Rattle.events.specs.Lines.{Numbered}
use Rattle.events.specs.Text.{advert_text, drop_text, end_line, exchange_text, frame_text, head_text, reply_text, rule_line, tag_text, text}
use Rattle.events.specs.declared.Event.{Event}
use Rattle.events.specs.declared.Exchange.{Exchange as ArpExchange}
use Rattle.events.specs.declared.Flow.{Flow}
use Rattle.events.specs.declared.Frame.{Frame as Leaves}
use Rattle.events.specs.declared.Head.{Head}
use Rattle.events.specs.declared.Reply.{Reply}
use Rattle.events.specs.declared.TagChange.{TagChange}
use Rattle.net_types.specs.Sets.{Each}
use Rattle.net_types.specs.declared.rule.Pair.{Pair}
use Rattle.text_laws.specs.Naming.{AddsNoPort, IsOfNoPort, IsWritable, WritableTextsNameReplies}
use Rattle.text_laws.specs.Widths.{IsFrame, IsHead, IsPair, IsTagChange}
use Rattle.text_laws.proofs.Alike.{Alike, Anything, behind, closed, is_hex, number_starts, starts}
use Rattle.text_laws.proofs.Heads.{heads}
use Rattle.text_laws.proofs.Joined.{cons_is}
use Rattle.text_laws.proofs.Lines.{advert_begins, adverts_told, drop_begins, drops_told, exchange_begins, exchanges_told, frame_begins, frames_told, IsPlainFlow, head_part, part, part_over, part_told, plain_flows, rule_begins, rules_told, tag_begins, tags_told}

-- ---- one reply

head_line : (n : ℕ) (h g : Head) → Alike (λ s. (rest : List ℕ) × (s ≡ 10 ∷ rest)) (h ≡ g) (head_text h) (head_text g) → Alike Anything (h ≡ g) (decimal n ++ codes " " ++ head_text h ++ end_line) (decimal n ++ codes " " ++ head_text g ++ end_line)
head_line n h g told = closed end_line (λ s. (s, refl)) (behind (decimal n ++ codes " ") told)

pub right_nested : (a b c d e f g s : List ℕ) → a ++ b ++ c ++ d ++ e ++ f ++ g ++ s ≡ a ++ (b ++ (c ++ (d ++ (e ++ (f ++ (g ++ s))))))
right_nested a b c d e f g s =
    append_assoc (a ++ b ++ c ++ d ++ e ++ f) g s ∙ append_assoc (a ++ b ++ c ++ d ++ e) f (g ++ s) ∙ append_assoc (a ++ b ++ c ++ d) e (f ++ (g ++ s))
    ∙ append_assoc (a ++ b ++ c) d (e ++ (f ++ (g ++ s))) ∙ append_assoc (a ++ b) c (d ++ (e ++ (f ++ (g ++ s)))) ∙ append_assoc a b (c ++ (d ++ (e ++ (f ++ (g ++ s)))))

reply_of : Head → List TagChange → List Pair → List Flow → List (List ℕ) → List ArpExchange → List Leaves → Reply
reply_of head tags drops adds adverts asks frames = record { head = head; tags = tags; drops = drops; adds = adds; adverts = adverts; asks = asks; frames = frames }

module _ (r q : Reply) where
  pub reply_is : r.head ≡ q.head → r.tags ≡ q.tags → r.drops ≡ q.drops → r.adds ≡ q.adds → r.adverts ≡ q.adverts → r.asks ≡ q.asks → r.frames ≡ q.frames → r ≡ q
  unfolding reply_of
  reply_is a b c d e f g =
      ap (λ x. reply_of x r.tags r.drops r.adds r.adverts r.asks r.frames) a ∙ ap (λ x. reply_of q.head x r.drops r.adds r.adverts r.asks r.frames) b
      ∙ ap (λ x. reply_of q.head q.tags x r.adds r.adverts r.asks r.frames) c ∙ ap (λ x. reply_of q.head q.tags q.drops x r.adverts r.asks r.frames) d
      ∙ ap (λ x. reply_of q.head q.tags q.drops q.adds x r.asks r.frames) e ∙ ap (λ x. reply_of q.head q.tags q.drops q.adds q.adverts x r.frames) f
      ∙ ap (λ x. reply_of q.head q.tags q.drops q.adds q.adverts q.asks x) g

abbrev pub frames_on : Reply → List ℕ → List ℕ
frames_on r s = flat_map frame_text r.frames ++ s

abbrev pub asks_on : Reply → List ℕ → List ℕ
asks_on r s = flat_map exchange_text r.asks ++ frames_on r s

abbrev pub adverts_on : Reply → List ℕ → List ℕ
adverts_on r s = flat_map advert_text r.adverts ++ asks_on r s

abbrev pub adds_on : Event → Reply → List ℕ → List ℕ
adds_on e r s = flat_map (rule_line e) r.adds ++ adverts_on r s

abbrev pub drops_on : Event → Reply → List ℕ → List ℕ
drops_on e r s = flat_map drop_text r.drops ++ adds_on e r s

abbrev pub tags_on : Event → Reply → List ℕ → List ℕ
tags_on e r s = flat_map tag_text r.tags ++ drops_on e r s

-- what comes later in a reply is of a later part
module _ (e : Event) (r : Reply) (s : List ℕ) (ends : part s ≡ 7) where
  behind_frames : (j : ℕ) → j < 7 → j < part s
  behind_frames j low = subst (λ n. j < n) (sym ends) low

  behind_asks : (j : ℕ) → j < 6 → j < part (frames_on r s)
  behind_asks j low = part_over frame_text IsFrame (λ f. Unit {0}) 6 frame_begins j r.frames s low (behind_frames j (omega (arith, low)))

  behind_adverts : (j : ℕ) → j < 5 → j < part (asks_on r s)
  behind_adverts j low = part_over exchange_text (λ x. Unit {0}) (λ x. Unit {0}) 5 exchange_begins j r.asks (frames_on r s) low (behind_asks j (omega (arith, low)))

  pub behind_adds : (j : ℕ) → j < 4 → j < part (adverts_on r s)
  behind_adds j low = part_over advert_text (λ m. Unit {0}) (λ m. Unit {0}) 4 advert_begins j r.adverts (asks_on r s) low (behind_adverts j (omega (arith, low)))

  pub behind_drops : (j : ℕ) → j < 3 → j < part (adds_on e r s)
  behind_drops j low = part_over (rule_line e) IsPlainFlow (λ f. IsOfNoPort f.rule.cube) 3 (rule_begins e) j r.adds (adverts_on r s) low (behind_adds j (omega (arith, low)))

  pub behind_tags : (j : ℕ) → j < 2 → j < part (drops_on e r s)
  behind_tags j low = part_over drop_text IsPair (λ p. Unit {0}) 2 drop_begins j r.drops (adds_on e r s) low (behind_drops j (omega (arith, low)))

pub any : {X : Type 0} (xs : List X) → Each (λ x. Unit {0}) xs
any [] = tt
any (x ∷ xs) = (tt, any xs)

-- the head, and what is behind it
pub nested_told : (n : ℕ) (e : Event) (r q : Reply) (s t : List ℕ) → reply_text n e r ++ s ≡ reply_text n e q ++ t
    → (decimal n ++ codes " " ++ head_text r.head ++ end_line) ++ tags_on e r s ≡ (decimal n ++ codes " " ++ head_text q.head ++ end_line) ++ tags_on e q t
nested_told n e r q s t same =
    let head : List ℕ = decimal n ++ codes " " ++ head_text r.head ++ end_line in
    let other : List ℕ = decimal n ++ codes " " ++ head_text q.head ++ end_line in
    sym (right_nested head (flat_map tag_text r.tags) (flat_map drop_text r.drops) (flat_map (rule_line e) r.adds) (flat_map advert_text r.adverts) (flat_map exchange_text r.asks) (flat_map frame_text r.frames) s)
    ∙ same ∙ right_nested other (flat_map tag_text q.tags) (flat_map drop_text q.drops) (flat_map (rule_line e) q.adds) (flat_map advert_text q.adverts) (flat_map exchange_text q.asks) (flat_map frame_text q.frames) t

pub heads_told : (n : ℕ) (e : Event) (r q : Reply) (s t : List ℕ) → IsHead r.head → reply_text n e r ++ s ≡ reply_text n e q ++ t → (r.head ≡ q.head) × (tags_on e r s ≡ tags_on e q t)
heads_told n e r q s t one same = (head_line n r.head q.head (heads r.head q.head one)).is (tags_on e r s) (tags_on e q t) tt tt (nested_told n e r q s t same)

pub reply_told : (n : ℕ) (e : Event) (r q : Reply) (s t : List ℕ) → IsWritable r → AddsNoPort q → part s ≡ 7 → part t ≡ 7 → reply_text n e r ++ s ≡ reply_text n e q ++ t → (r ≡ q) × (s ≡ t)
reply_told n e r q s t one two ends stops same =
    let first = heads_told n e r q s t one.widths.head same in
    let tags =
    part_told tag_text IsTagChange (λ x. Unit {0}) 1 tag_begins tags_told r.tags q.tags (drops_on e r s) (drops_on e q t) one.widths.tags (any q.tags) (behind_tags e r s ends 1 (omega arith)) (behind_tags e q t stops 1 (omega arith)) first.1 in
    let drops =
    part_told drop_text IsPair (λ p. Unit {0}) 2 drop_begins drops_told r.drops q.drops (adds_on e r s) (adds_on e q t) one.widths.drops (any q.drops) (behind_drops e r s ends 2 (omega arith)) (behind_drops e q t stops 2 (omega arith)) tags.1 in
    let adds =
    part_told (rule_line e) IsPlainFlow (λ f. IsOfNoPort f.rule.cube) 3 (rule_begins e) (rules_told e) r.adds q.adds (adverts_on r s) (adverts_on q t) (plain_flows r.adds one.widths.adds one.of_no_port) two (behind_adds e r s ends 3 (omega arith)) (behind_adds e q t stops 3 (omega arith)) drops.1 in
    let adverts =
    part_told advert_text (λ m. Unit {0}) (λ m. Unit {0}) 4 advert_begins adverts_told r.adverts q.adverts (asks_on r s) (asks_on q t) (any r.adverts) (any q.adverts) (behind_adverts e r s ends 4 (omega arith)) (behind_adverts e q t stops 4 (omega arith)) adds.1 in
    let asks =
    part_told exchange_text (λ x. Unit {0}) (λ x. Unit {0}) 5 exchange_begins exchanges_told r.asks q.asks (frames_on r s) (frames_on q t) (any r.asks) (any q.asks) (behind_asks e r s ends 5 (omega arith)) (behind_asks e q t stops 5 (omega arith)) adverts.1 in
    let frames = part_told frame_text IsFrame (λ f. Unit {0}) 6 frame_begins frames_told r.frames q.frames s t one.widths.frames (any q.frames) (behind_frames e r s ends 6 (omega arith)) (behind_frames e q t stops 6 (omega arith)) asks.1 in
    (reply_is r q first.0 tags.0 drops.0 adds.0 adverts.0 asks.0 frames.0, frames.1)

-- ---- lists of replies

starts_more : (a b c d e f g h i j k : List ℕ) → starts is_hex a ≡ true → starts is_hex (a ++ b ++ c ++ d ++ e ++ f ++ g ++ h ++ i ++ j ++ k) ≡ true
starts_more [] b c d e f g h i j k is = absurd (cc)
starts_more (x ∷ a) b c d e f g h i j k is = is

pub text_part : (ns : List Numbered) (rs : List Reply) → part (text ns rs) ≡ 7
text_part [] rs = refl
text_part (n ∷ ns) [] = refl
text_part (n ∷ ns) (r ∷ rs) =
    head_part (text (n ∷ ns) (r ∷ rs))
    (starts_more (decimal n.number) (codes " ") (head_text r.head) end_line (flat_map tag_text r.tags) (flat_map drop_text r.drops) (flat_map (rule_line n.event) r.adds) (flat_map advert_text r.adverts)
    (flat_map exchange_text r.asks) (flat_map frame_text r.frames) (text ns rs) (number_starts n.number))

pub writable_texts_name_replies : WritableTextsNameReplies
writable_texts_name_replies [] [] [] many also one two e = refl
writable_texts_name_replies [] [] (q ∷ qs) many also one two e = absurd also
writable_texts_name_replies [] (r ∷ rs) qs many also one two e = absurd many
writable_texts_name_replies (n ∷ ns) [] qs many also one two e = absurd many
writable_texts_name_replies (n ∷ ns) (r ∷ rs) [] many also one two e = absurd also
writable_texts_name_replies (n ∷ ns) (r ∷ rs) (q ∷ qs) many also one two e =
    let first = reply_told n.number n.event r q (text ns rs) (text ns qs) one.0 two.0 (text_part ns rs) (text_part ns qs) e in
    cons_is r q rs qs first.0 (writable_texts_name_replies ns rs qs many also one.1 two.1 first.1)
