-- The threads are a scan, and what a step of the code says of the text.
use Rattle.std.proofs.Common.{◌≡◌, ℕ, ◌+◌, ◌<◌, ◌⊎◌, inl, inr, List, [], ◌∷◌, length, get_or, drop, true, false, refl, sym, subst, ap, ◌∙◌}
use Rattle.std.specs.Prelude.{◌==◌, Bool}
use Rattle.lf_syntax.specs.LeafLaws.{eqb-is, eqb-yes}
use Rattle.lf_syntax.specs.declared.thread.Thread as code_thread
use Rattle.lf_syntax.specs.Places.{LeftAt, GoodAt, IsScan, FaultPlace, Carries}
use Rattle.lf_syntax.specs.PlaceLaws.{one_of_two, same_place, carries_all, carries_byte, carries_stuck, carries_short, carries_sentence}
use Rattle.lf_syntax.specs.Grammar.{Grammar, NestedSentence, is_sound, is_rule}
use Rattle.lf_syntax.specs.Threads.{Thread, AnyThread, threads_step, threads_end, start, some_threads, AreSound, IsGood}
use Rattle.lf_syntax.specs.ThreadLaws.{threads-stop, threads-stops, threads-take, threads-taken, threads-lives, threads-keeps, start-in, start-out, start-sound}
use Rattle.lf_syntax.specs.Shape.{threads}

-- what has been found out of a text: its threads after i bytes
pub record IsReading (rule : Grammar) (L : List ℕ → Type 0) (text : List ℕ) (i : ℕ) (ts : List Thread) : Type 0 where
  pub is_good : IsGood ts
  pub carries : Carries L text i (AnyThread rule ts) (drop i text)

-- whether a thread is left, as the code asks it
module _ (t : Bool) (xs ys : List code_thread.Thread) (test : t ≡ (length xs == 0)) (same : xs ≡ ys) where
  pub none_left : t ≡ true → length ys ≡ 0
  none_left e = sym (ap length same) ∙ eqb-is (length xs) 0 (sym test ∙ e)

  pub some_left : t ≡ false → length ys ≡ 0 → ⊥
  some_left e h = let f : true ≡ false = sym (eqb-yes (length xs) 0 (ap length same ∙ h)) ∙ sym test ∙ e in cc

module _ (rule : Grammar) (good : is_rule rule ≡ true) where
  some-in : (ts : List Thread) (w : List ℕ) → AnyThread rule ts w → LeftAt (AnyThread rule) (some_threads ts) w
  some-in [] w h = h
  some-in (t ∷ ts) w h = h

  some-out : (ts : List Thread) (w : List ℕ) → LeftAt (AnyThread rule) (some_threads ts) w → AnyThread rule ts w
  some-out [] w h = h
  some-out (t ∷ ts) w h = h

  some-good : (ts : List Thread) → AreSound ts → GoodAt IsGood (some_threads ts)
  some-good [] h = tt
  some-good (t ∷ ts) h = h

  good-sound : (ts : List Thread) → IsGood ts → AreSound ts
  good-sound [] h = absurd h
  good-sound (t ∷ ts) h = h

  threads_scan : IsScan (List Thread) (λ ts b. some_threads (threads_step rule ts b)) threads_end (AnyThread rule) IsGood
  threads_scan = record {
    stop = λ ts h. threads-stop rule good ts h;
    stops = λ ts h. threads-stops rule good ts h;
    take_byte = λ ts b w h. some-in (threads_step rule ts b) w (threads-take rule good b ts w h);
    taken_byte = λ ts b w h. threads-taken rule good b ts w (some-out (threads_step rule ts b) w h);
    lives = λ ts s. threads-lives rule good ts s;
    keeps = λ ts b s. some-good (threads_step rule ts b) (threads-keeps rule good b ts (good-sound ts s));
  }

  pub sentence_or_place : (d : ℕ) (g : Grammar) (text : List ℕ) → is_sound g ≡ true → NestedSentence rule d g text ⊎ ((p : ℕ) × FaultPlace (NestedSentence rule d g) text p)
  sentence_or_place d g text s =
      elim (one_of_two (List Thread) (λ ts b. some_threads (threads_step rule ts b)) threads_end (AnyThread rule) IsGood threads_scan text (start d g) (start-sound rule good d g s)) [
        | inl h ↦ inl (start-out rule good d g text h)
        | inr f ↦ inr (f.0, same_place (NestedSentence rule d g) (AnyThread rule (start d g)) text f.0 (λ w h. start-out rule good d g w h) (λ w h. start-in rule good d g w h) f.1)
      ]

  pub begins_reading : (d : ℕ) (g : Grammar) (text : List ℕ) (ts : List Thread) → is_sound g ≡ true → ts ≡ start d g → IsReading rule (NestedSentence rule d g) text 0 ts
  begins_reading d g text ts s e =
      subst (λ (us : List Thread). IsReading rule (NestedSentence rule d g) text 0 us) (sym e) (record {
        is_good = start-sound rule good d g s;
        carries = carries_all (NestedSentence rule d g) (AnyThread rule (start d g)) text (λ w h. start-out rule good d g w h) (λ w h. start-in rule good d g w h);
      })

  good_of : (items : List code_thread.Thread) → (length items ≡ 0 → ⊥) → AreSound (threads items) → IsGood (threads items)
  good_of [] some h = absurd (some refl)
  good_of (t ∷ ts) some h = h

  none_of : (items : List code_thread.Thread) → length items ≡ 0 → threads items ≡ []
  none_of [] e = refl
  none_of (t ∷ ts) e = cc

  module _ (L : List ℕ → Type 0) (text : List ℕ) (i : ℕ) (ts : List Thread) (reading : IsReading rule L text i ts) where
    pub goes_on : (items : List code_thread.Thread) → i < length text → threads items ≡ threads_step rule ts (get_or text i 0) → (length items ≡ 0 → ⊥) → IsReading rule L text (i + 1) (threads items)
    goes_on items below e some = record {
      is_good = good_of items some (subst AreSound (sym e) (threads-keeps rule good (get_or text i 0) ts (good-sound ts reading.is_good)));
      carries =
          carries_byte L (AnyThread rule ts) (AnyThread rule (threads items)) text i below
          (λ v h. subst (λ (us : List Thread). AnyThread rule us v) (sym e) (threads-take rule good (get_or text i 0) ts v h))
          (λ v h. threads-taken rule good (get_or text i 0) ts v (subst (λ (us : List Thread). AnyThread rule us v) e h))
          reading.carries;
    }

    pub is_stuck : (items : List code_thread.Thread) → i < length text → threads items ≡ threads_step rule ts (get_or text i 0) → length items ≡ 0 → FaultPlace L text i
    is_stuck items below e none =
        carries_stuck L (AnyThread rule ts) text i below
        (λ v h. subst (λ (us : List Thread). AnyThread rule us v) (sym e ∙ none_of items none) (threads-take rule good (get_or text i 0) ts v h))
        (threads-lives rule good ts reading.is_good) reading.carries

    pub is_short : i ≡ length text → threads_end ts ≡ false → FaultPlace L text (length text)
    is_short at no_end =
        carries_short L (AnyThread rule ts) text i at (λ h. let t = threads-stop rule good ts h in cc) (threads-lives rule good ts reading.is_good) reading.carries

    pub is_sentence : i ≡ length text → threads_end ts ≡ true → L text
    is_sentence at an_end = carries_sentence L (AnyThread rule ts) text i at (threads-stops rule good ts an_end) reading.carries
