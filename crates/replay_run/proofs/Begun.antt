-- Replies to the first events of an input go on to all of them.
use Rattle.std.proofs.Common.{◌≡◌, ℕ, ◌+◌, ◌≤◌, List, [], ◌∷◌, ◌++◌, sym, ap, subst, ◌∙◌, append_assoc, refl, arith}
use Rattle.events.specs.After.{next}
use Rattle.events.specs.Legal.{Legal, LegalFrom, state_from}
use Rattle.events.specs.Lines.{Numbered, bare_events, events_of}
use Rattle.events.specs.State.{State, first}
use Rattle.events.specs.Text.{reply_text, text}
use Rattle.events.specs.declared.Event.{Event}
use Rattle.events.specs.declared.Reply.{Reply}
use Rattle.net_types.specs.Sets.{Member}
use Rattle.replay_run.specs.Bounds.{first_bound, run_bound}
use Rattle.replay_run.specs.Progress.{IsPartOf}
use Rattle.replay_run.specs.Run.{Begins}
use Rattle.replay_run.proofs.Octets.{events_written}
use Rattle.replay_run.proofs.Runs.{bare_append, bound_append, first_within, legal_rest}
use Rattle.job_laws.specs.Replying.{AllRunsGoOn}

text_append : (s : State) (es fs : List Numbered) (rs more : List Reply) → LegalFrom s (bare_events es) rs → text (es ++ fs) (rs ++ more) ≡ text es rs ++ text fs more
text_append s [] fs [] more legal = refl
text_append s [] fs (r ∷ rs) more legal = absurd legal
text_append s (e ∷ es) fs [] more legal = absurd legal
text_append s (e ∷ es) fs (r ∷ rs) more legal =
    ap (λ xs. reply_text e.number e.event r ++ xs) (text_append (next s e.event r) es fs rs more legal.1)
    ∙ sym (append_assoc (reply_text e.number e.event r) (text es rs) (text fs more))

-- the steps of the first lines, and of the one behind them, are within the bounds of all
pub within_all : (s : State) (es fs : List Event) (rs more : List Reply) (before after : ℕ) → LegalFrom s es rs → LegalFrom s (es ++ fs) (rs ++ more) → after ≤ before + run_bound s es rs + first_bound (state_from s es rs) fs
    → after ≤ before + run_bound s (es ++ fs) (rs ++ more)
within_all s es fs rs more before after legal all few =
    omega (arith, few, bound_append s es fs rs more legal, first_within (state_from s es rs) fs more (legal_rest s es fs rs more legal all))

-- what begins the text of replies to the first events begins that of replies to all
pub begins : AllRunsGoOn → (octets w : List ℕ) (before after : ℕ) → IsPartOf first octets w before after → Begins octets w before after
begins runs_go_on octets w before after part =
    let all : bare_events (events_of octets) ≡ bare_events part.events ++ bare_events part.others = ap bare_events part.front ∙ bare_append part.events part.others in
    let on = runs_go_on (bare_events part.events) (bare_events part.others) part.replies (λ e m. events_written octets e (subst (Member e) (sym all) m)) part.legal in
    record {
      replies = part.replies ++ on.0;
      rest = part.rest ++ text part.others on.0;
      legal = subst (λ es. Legal es (part.replies ++ on.0)) (sym all) on.1;
      written = ap (λ es. text es (part.replies ++ on.0)) part.front ∙ text_append first part.events part.others part.replies on.0 part.legal
          ∙ ap (λ xs. xs ++ text part.others on.0) part.written ∙ append_assoc w part.rest (text part.others on.0);
      steps = subst (λ es. after ≤ before + run_bound first es (part.replies ++ on.0)) (sym all)
          (within_all first (bare_events part.events) (bare_events part.others) part.replies on.0 before after part.legal on.1 part.steps);
    }

-- an input without octets
pub nothing_begun : (before : ℕ) → Begins [] [] before before
nothing_begun before = record { replies = []; rest = []; legal = tt; written = refl; steps = omega arith }
