-- Lines that are run one behind the other, and their replies, of which some are written and the last ones wait.
use Rattle.std.proofs.Common.{◌≡◌, ℕ, ◌+◌, ◌≤◌, Bool, true, false, ◌||◌, List, [], ◌∷◌, ◌++◌, take, sym, ap, subst, ◌∙◌, append_assoc, append-nil, refl, inl, inr}
use Rattle.std.specs.Prelude.{Option}
use Rattle.events.specs.Lines.{event_of}
use Rattle.events.specs.State.{State, first}
use Rattle.replay_run.specs.Bounds.{line_bound}
use Rattle.replay_run.specs.declared.progress.Progress.{Progress}
use Rattle.replay_run.specs.Progress.{IsBegun, IsPartOf, IsRun, Ran, RunsEvent, RunsOn, StopsIn, is_open, kept_octets}
use Rattle.replay_run.specs.Sending.{IsSent}
use Rattle.replay_run.proofs.Bytes.{Appends_none, Appends_then}
use Rattle.replay_run.proofs.Ends.{last_run, last_stopped, part_of_all}
use Rattle.replay_run.proofs.Parts.{along, end_of_part, inside_line, part_of_front, part_of_run, runs_more, stop_of_part}

-- what is sent, behind what was written before
written_behind : (u waited w front waits rest : List ℕ) → waited ++ w ≡ (front ++ waits) ++ rest → (u ++ waited) ++ w ≡ ((u ++ front) ++ waits) ++ rest
written_behind u waited w front waits rest e =
    append_assoc u waited w ∙ ap (λ x. u ++ x) e ∙ sym (append_assoc u (front ++ waits) rest) ∙ ap (λ x. x ++ rest) (sym (append_assoc u front waits))

-- a front of what begins the text
pub part_cut : (s : State) (octets x y rest : List ℕ) (before after : ℕ) → x ≡ y ++ rest → IsPartOf s octets x before after → IsPartOf s octets y before after
part_cut s octets x y rest before after e h = part_of_front s octets [] x y rest before after e h

-- ---- one line

module _ (a b : Option (List ℕ)) (waited w waits rest : List ℕ) (p : Progress) (t t' : State) (mid after : ℕ) (part : List ℕ) (open_part : is_open part ≡ true) (few : after ≤ mid + line_bound t (event_of (p.line ++ part))) (sent : IsSent a b waited w waits rest) where
  -- the line is run, and its reply stands behind those before it
  ran_line : (said : Bool) → RunsEvent (event_of (p.line ++ part)) t p.number false w t' said → (s : State) (octets u : List ℕ) (before : ℕ) → IsRun s octets (u ++ waited) p t before mid
      → Ran s (octets ++ (part ++ 10 ∷ [])) (((u ++ sent.front) ++ waits) ++ rest) [] (p.number + 1) (p.refused || said) t' before after
  ran_line said runs s octets u before h =
      subst (λ x. Ran s (octets ++ (part ++ 10 ∷ [])) x [] (p.number + 1) (p.refused || said) t' before after) (written_behind u waited w sent.front waits rest sent.whole)
      (end_of_part s octets (u ++ waited) p.line p.number p.refused (p.refused || said) t t' before mid after w part open_part (runs_more (event_of (p.line ++ part)) t p.number w t' p.refused said (p.refused || said) refl runs) few h)

  -- the line is given up
  pub stops_line : IsBegun (event_of (p.line ++ part)) t p.number w t' → StopsIn a b waited waits p t mid after (part ++ 10 ∷ [])
  stops_line begun s octets u before h = (sent.front, sent.appends, λ others. by begun others)
    where
      by : IsBegun (event_of (p.line ++ part)) t p.number w t' → (others : List ℕ) → IsPartOf s (octets ++ ((part ++ 10 ∷ []) ++ others)) ((u ++ sent.front) ++ waits) before after
      by (inl none) others =
          subst (λ x. IsPartOf s (octets ++ x) ((u ++ sent.front) ++ waits) before after) (sym (append_assoc part (10 ∷ []) others))
          (part_cut s (octets ++ (part ++ 10 ∷ others)) (u ++ waited) ((u ++ sent.front) ++ waits) rest before after
          (sym (append-nil (u ++ waited)) ∙ ap (λ x. (u ++ waited) ++ x) (sym none) ∙ written_behind u waited w sent.front waits rest sent.whole)
          (stop_of_part s octets (u ++ waited) p.line p.number p.refused t before mid after part others open_part few h))
      by (inr run) others =
          subst (λ x. IsPartOf s x ((u ++ sent.front) ++ waits) before after) (append_assoc octets (part ++ 10 ∷ []) others)
          (part_cut s ((octets ++ (part ++ 10 ∷ [])) ++ others) (((u ++ sent.front) ++ waits) ++ rest) ((u ++ sent.front) ++ waits) rest before after refl
          (part_of_run s (octets ++ (part ++ 10 ∷ [])) (((u ++ sent.front) ++ waits) ++ rest) [] (p.number + 1) (p.refused || run.0) t' before after others (ran_line run.0 run.1 s octets u before h)))

pub runs_line : (a b : Option (List ℕ)) (waited w waits : List ℕ) (p p' : Progress) (t t' : State) (mid after : ℕ) (part : List ℕ) (said : Bool) → is_open part ≡ true → after ≤ mid + line_bound t (event_of (p.line ++ part)) → IsSent a b waited w waits []
    → RunsEvent (event_of (p.line ++ part)) t p.number false w t' said → p'.line ≡ [] → p'.number ≡ p.number + 1 → p'.refused ≡ (p.refused || said) → RunsOn a b waited waits p p' t t' mid after (part ++ 10 ∷ [])
runs_line a b waited w waits p p' t t' mid after part said open_part few sent runs line number refused s octets u before h = (
  sent.front,
  sent.appends,
  (let all = octets ++ (part ++ 10 ∷ []) in
      let text = (u ++ sent.front) ++ waits in
      subst (λ l. Ran s all text l p'.number p'.refused t' before after) (sym line)
      (subst (λ n. Ran s all text [] n p'.refused t' before after) (sym number)
      (subst (λ r. Ran s all text [] (p.number + 1) r t' before after) (sym refused)
      (subst (λ x. Ran s all x [] (p.number + 1) (p.refused || said) t' before after) (append-nil text)
      (ran_line a b waited w waits [] p t t' mid after part open_part few sent said runs s octets u before h))))),
)

-- a part of a line that has no end yet
pub runs_part : (a : Option (List ℕ)) (waits : List ℕ) (p p' : Progress) (t : State) (mid : ℕ) (part : List ℕ) → is_open part ≡ true → p'.line ≡ take kept_octets (p.line ++ part) → p'.number ≡ p.number → p'.refused ≡ p.refused
    → RunsOn a a waits waits p p' t t mid mid part
runs_part a waits p p' t mid part open_part line number refused s octets u before h = (
  [],
  Appends_none a,
  (let text = (u ++ []) ++ waits in
      subst (λ l. Ran s (octets ++ part) text l p'.number p'.refused t before mid) (sym line)
      (subst (λ n. Ran s (octets ++ part) text (take kept_octets (p.line ++ part)) n p'.refused t before mid) (sym number)
      (subst (λ r. Ran s (octets ++ part) text (take kept_octets (p.line ++ part)) p.number r t before mid) (sym refused)
      (subst (λ x. Ran s (octets ++ part) x (take kept_octets (p.line ++ part)) p.number p.refused t before mid) (ap (λ x. x ++ waits) (sym (append-nil u)))
      (inside_line s octets (u ++ waits) p.line p.number p.refused t before mid part open_part h))))),
)

-- ---- lines one behind the other

pub runs_none : (a : Option (List ℕ)) (waits : List ℕ) (p : Progress) (t : State) (mid : ℕ) → RunsOn a a waits waits p p t t mid mid []
runs_none a waits p t mid s octets u before h = (
  [],
  Appends_none a,
  along s octets (u ++ waits) (octets ++ []) ((u ++ []) ++ waits) p t before mid (sym (append-nil octets)) (ap (λ x. x ++ waits) (sym (append-nil u))) h,
)

module _ (a b c : Option (List ℕ)) (waited waits last : List ℕ) (p q : Progress) (t u : State) (before mid : ℕ) (front : List ℕ) (begin : RunsOn a b waited waits p q t u before mid front) where
  pub runs_then : (r : Progress) (v : State) (after : ℕ) (more : List ℕ) → RunsOn b c waits last q r u v mid after more → RunsOn a c waited last p r t v before after (front ++ more)
  runs_then r v after more second s octets w start h =
      let one = begin s octets w start h in
      let two = second s (octets ++ front) (w ++ one.0) start one.2 in (
        one.0 ++ two.0,
        Appends_then a b c one.0 two.0 one.1 two.1,
        along s ((octets ++ front) ++ more) (((w ++ one.0) ++ two.0) ++ last) (octets ++ (front ++ more)) ((w ++ (one.0 ++ two.0)) ++ last) r v start after (append_assoc octets front more) (ap (λ x. x ++ last) (append_assoc w one.0 two.0)) two.2,
      )

  pub stops_then : (after : ℕ) (more piece : List ℕ) (behind : List ℕ) → piece ≡ front ++ (more ++ behind) → StopsIn b c waits last q u mid after more → StopsIn a c waited last p t before after piece
  stops_then after more piece behind is second s octets w start h =
      let one = begin s octets w start h in
      let two = second s (octets ++ front) (w ++ one.0) start one.2 in (
        one.0 ++ two.0,
        Appends_then a b c one.0 two.0 one.1 two.1,
        λ others.
            subst (λ x. IsPartOf s x ((w ++ (one.0 ++ two.0)) ++ last) start after)
            (append_assoc octets front (more ++ (behind ++ others))
            ∙ ap (λ x. octets ++ x) (ap (λ x. front ++ x) (sym (append_assoc more behind others)) ∙ sym (append_assoc front (more ++ behind) others) ∙ ap (λ x. x ++ others) (sym is)))
            (subst (λ x. IsPartOf s ((octets ++ front) ++ (more ++ (behind ++ others))) (x ++ last) start after) (append_assoc w one.0 two.0) (two.2 (behind ++ others))),
      )

-- the run is given up between two lines, or in one that has no end yet
pub stops_here : (a : Option (List ℕ)) (waits : List ℕ) (p : Progress) (t : State) (mid : ℕ) (more : List ℕ) → StopsIn a a waits waits p t mid mid more
stops_here a waits p t mid more s octets u before h = (
  [],
  Appends_none a,
  λ others. subst (λ x. IsPartOf s (octets ++ (more ++ others)) (x ++ waits) before mid) (sym (append-nil u)) (part_of_run s octets (u ++ waits) p.line p.number p.refused t before mid (more ++ others) h),
)

-- ---- the last line

-- where nothing waited, a reply of which nothing is lost is what is written and what waits
pub reply_is : (waited w front waits : List ℕ) → waited ≡ [] → waited ++ w ≡ (front ++ waits) ++ [] → w ≡ front ++ waits
reply_is waited w front waits none whole = ap (λ x. x ++ w) (sym none) ∙ whole ∙ append-nil (front ++ waits)

-- a line without an end is given up
pub last_cut : (a b : Option (List ℕ)) (octets w : List ℕ) (p : Progress) (t u : State) (before mid after : ℕ) (waited v waits rest : List ℕ) → waited ≡ [] → (sent : IsSent a b waited v waits rest) → (p.line ≡ [] → ⊥)
    → IsBegun (event_of p.line) t p.number v u → after ≤ mid + line_bound t (event_of p.line) → IsRun first octets w p t before mid → IsPartOf first octets (w ++ sent.front) before after
last_cut a b octets w p t u before mid after waited v waits rest none sent some begun few h = part_cut first octets (w ++ v) (w ++ sent.front) (waits ++ rest) before after all (by begun)
  where
    all : w ++ v ≡ (w ++ sent.front) ++ (waits ++ rest)
    all = ap (λ x. x ++ v) (sym (append-nil w) ∙ ap (λ x. w ++ x) (sym none)) ∙ written_behind w waited v sent.front waits rest sent.whole ∙ append_assoc (w ++ sent.front) waits rest

    by : IsBegun (event_of p.line) t p.number v u → IsPartOf first octets (w ++ v) before after
    by (inl nothing) = subst (λ x. IsPartOf first octets x before after) (sym (append-nil w) ∙ ap (λ x. w ++ x) (sym nothing)) (last_stopped octets w p t before mid after some few h)
    by (inr run) =
        let now = p.refused || run.0 in
        part_of_all octets (w ++ v) u now before after (last_run octets w p now t u before mid after v some (runs_more (event_of p.line) t p.number v u p.refused run.0 now refl run.1) few h)
