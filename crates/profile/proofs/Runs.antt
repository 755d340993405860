-- Every history leaves a profile as its edits said. Assumes nothing.
use Rattle.std.proofs.Common.{◌≡◌, ℕ, List, [], ◌∷◌, ◌++◌, Ok, Err, sym, refl, ap, ◌∙◌, subst, inl, inr, ⊎_elim, append_assoc, append-nil}
use Rattle.std.proofs.ByRecursion.{All-push}
use Rattle.pegs.specs.Tables.{fixed_slot, peg_slot}
use Rattle.pegs.specs.declared.edit.Edit.{Edit}
use Rattle.pegs.specs.declared.tables.Tables.{Tables}
use Rattle.profile.specs.declared.profile.Profile.{Profile}
use Rattle.profile.specs.Entries.{entries}
use Rattle.profile.specs.History.{Answers, Event, Run, begins, edited, goes, read}
use Rattle.profile.specs.Law.{OfFixed, OfPeg, Since, StandsAsEdited, TookBook, edits, fixed_said, peg_said}
use Rattle.profile.specs.Reading.{IsBook}
use Rattle.profile.proofs.Kept.{sound_of}
use Rattle.profile.proofs.Standing.{as_said}
use Rattle.profile.proofs.Whole.{State, book_state, none, one_edit}

edits_append : (h k : List Event) → edits (h ++ k) ≡ edits h ++ edits k
edits_append [] k = refl
edits_append (edited e r ∷ h) k = ap (λ l. e ∷ l) (edits_append h k)
edits_append (read bytes r ∷ h) k = edits_append h k

-- a call that is no accepted book adds its edits to those that count
more : (h : List Event) (log : List Edit) (e : Event) → (TookBook e → ⊥) → Since h log → Since (h ++ (e ∷ [])) (log ++ edits (e ∷ []))
more h log e bars s =
    ⊎_elim
    (λ b. inl (All-push _ h e b.0 bars, ap (λ l. l ++ edits (e ∷ [])) b.1 ∙ sym (edits_append h (e ∷ []))))
    (λ b. inr (record {
      before = b.before;
      bytes = b.bytes;
      contents = b.contents;
      after = b.after ++ (e ∷ []);
      cut = ap (λ l. l ++ (e ∷ [])) b.cut ∙ append_assoc b.before (read b.bytes (Ok tt) ∷ b.after) (e ∷ []);
      book = b.book;
      no_later = All-push _ b.after e b.no_later bars;
      said = ap (λ l. l ++ edits (e ∷ [])) b.said
          ∙ append_assoc (entries b.contents) (edits b.after) (edits (e ∷ []))
          ∙ ap (λ l. entries b.contents ++ l) (sym (edits_append b.after (e ∷ [])));
    }))
    s

-- an accepted book begins the edits that count anew
booked : (h : List Event) (bytes : List ℕ) (t : Tables) → IsBook bytes t → Since (h ++ (read bytes (Ok tt) ∷ [])) (entries t)
booked h bytes t is = inr (record { before = h; bytes = bytes; contents = t; after = []; cut = refl; book = is; no_later = tt; said = sym (append-nil (entries t)) })

-- the edits that count so far, and every slot as they say
pub record SoFar (h : List Event) (t : Tables) : Type 0 where
  pub log : List Edit
  pub since : Since h log
  pub state : State log t

step : (h : List Event) (e : Event) (b a : Profile) → Answers e b a → SoFar h b.tables → SoFar (h ++ (e ∷ [])) a.tables
step h (edited e (Ok u)) b a w s = record {
  log = s.log ++ (e ∷ []);
  since = more h s.log (edited e (Ok u)) (λ x. x) s.since;
  state = one_edit e b.tables a.tables (Ok u) s.log (sound_of a) w.0 s.state;
}
step h (edited e (Err x)) b a w s = record {
  log = s.log ++ (e ∷ []);
  since = more h s.log (edited e (Err x)) (λ x. x) s.since;
  state = one_edit e b.tables a.tables (Err x) s.log (sound_of a) w.0 s.state;
}
step h (read bytes (Ok u)) b a w s = record { log = entries a.tables; since = booked h bytes a.tables w.0; state = book_state a.tables (sound_of a) }
step h (read bytes (Err x)) b a w s = record {
  log = s.log;
  since = subst (Since (h ++ (read bytes (Err x) ∷ []))) (append-nil s.log) (more h s.log (read bytes (Err x)) (λ x. x) s.since);
  state = subst (State s.log) (sym w.1.tables) s.state;
}

pub so_far : {h : List Event} {p : Profile} → Run h p → SoFar h p.tables
so_far (begins p new) = record { log = []; since = inl (tt, refl); state = subst (State []) (sym new.tables) none }
so_far (goes h b e a r w) = step h e b a w (so_far r)

pub stands_as_edited : StandsAsEdited
stands_as_edited h p r =
    let s = so_far r in
    record {
      log = s.log;
      since = s.since;
      pegs = λ n. as_said (OfPeg n) peg_said s.log (peg_slot p.tables n) (s.state.pegs n);
      fixed = λ n. as_said (OfFixed n) fixed_said s.log (fixed_slot p.tables n) (s.state.fixed n);
    }
