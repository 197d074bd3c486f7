-- Texts that are sent one behind the other.
use Rattle.std.proofs.Common.{◌≡◌, ℕ, List, [], ◌++◌, sym, ap, ◌∙◌, append_assoc, append-nil, refl}
use Rattle.std.specs.Prelude.{Option}
use Rattle.std.specs.Io.KnownBytes.{Appends}
use Rattle.replay_run.specs.Sending.{IsSent}
use Rattle.replay_run.proofs.Bytes.{Appends_none, Appends_then}

-- nothing more is written, and a text is lost
pub none_sent : (held : Option (List ℕ)) (waits w : List ℕ) → IsSent held held waits w waits w
none_sent held waits w = record { front = []; appends = Appends_none held; whole = refl }

-- a text waits behind the others
pub all_waits : (held : Option (List ℕ)) (waited w : List ℕ) → IsSent held held waited w (waited ++ w) []
all_waits held waited w = record { front = []; appends = Appends_none held; whole = sym (append-nil (waited ++ w)) }

-- all that waited is written, and a text with it
pub all_written : (held held' : Option (List ℕ)) (waited w both : List ℕ) → both ≡ waited ++ w → Appends held held' both → IsSent held held' waited w [] []
all_written held held' waited w both is appends = record {
  front = both;
  appends = appends;
  whole = sym is ∙ sym (append-nil both) ∙ sym (append-nil (both ++ []));
}

-- a front of them is written, and the rest is lost
pub front_written : (held held' : Option (List ℕ)) (waited w both front rest : List ℕ) → both ≡ waited ++ w → both ≡ front ++ rest → Appends held held' front → IsSent held held' waited w [] rest
front_written held held' waited w both front rest is cut appends = record {
  front = front;
  appends = appends;
  whole = sym is ∙ cut ∙ ap (λ x. x ++ rest) (sym (append-nil front));
}

-- a text behind one of which nothing was lost
pub sent_then : (a b c : Option (List ℕ)) (waited v waits w waits' rest : List ℕ) → IsSent a b waited v waits [] → IsSent b c waits w waits' rest → IsSent a c waited (v ++ w) waits' rest
sent_then a b c waited v waits w waits' rest one two = record {
  front = one.front ++ two.front;
  appends = Appends_then a b c one.front two.front one.appends two.appends;
  whole = sym (append_assoc waited v w) ∙ ap (λ x. x ++ w) (one.whole ∙ append-nil (one.front ++ waits)) ∙ append_assoc one.front waits w ∙ ap (λ x. one.front ++ x) two.whole
      ∙ sym (append_assoc one.front (two.front ++ waits') rest) ∙ ap (λ x. x ++ rest) (sym (append_assoc one.front two.front waits'));
}

-- what comes behind a text that wasn't sent is lost too
pub sent_before : (a b : Option (List ℕ)) (waited v waits rest w : List ℕ) → IsSent a b waited v waits rest → IsSent a b waited (v ++ w) waits (rest ++ w)
sent_before a b waited v waits rest w one = record {
  front = one.front;
  appends = one.appends;
  whole = sym (append_assoc waited v w) ∙ ap (λ x. x ++ w) one.whole ∙ append_assoc (one.front ++ waits) rest w;
}

-- the same text
pub sent_along : (a b : Option (List ℕ)) (waited v w waits rest : List ℕ) → v ≡ w → IsSent a b waited v waits rest → IsSent a b waited w waits rest
sent_along a b waited v w waits rest e one = record { front = one.front; appends = one.appends; whole = ap (λ x. waited ++ x) (sym e) ∙ one.whole }
