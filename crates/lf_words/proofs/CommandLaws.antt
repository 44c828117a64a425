-- Each list of words is one command, or it is bad.
use Rattle.std.proofs.Common.{◌≡◌, ℕ, List, [], ◌∷◌, ◌<◌, ◌^◌, Bool, true, false, Option, None, Some, codes, get_or, drop, inl, inr, arith, refl, sym, ◌∙◌, ap, subst}
use Rattle.std.specs.Prelude.{◌⊎◌}
use Rattle.std.specs.List.{list_all}
use Rattle.std.proofs.lemmas.Bool.{cases_Bool}
use Rattle.lf_words.specs.declared.command.Command.{Command}
use Rattle.lf_words.specs.declared.command.Side.{Side}
use Rattle.lf_words.specs.declared.command.Front.{Front}
use Rattle.lf_words.specs.declared.command.Verb.{Verb}
use Rattle.lf_words.specs.declared.command.Verb.TheVariants.{Check, Read, Write, Translate, Show, Gen}
use Rattle.lf_words.specs.Command.{verb_text, front_text, Given, value_of, option_words, AreOptionsOf, IsNumber, IsJobs, IsDash, IsPlain, IsTranslate, IsGen, IsTail, is_word, IsCommand, IsOneCommandOrBad}
use Rattle.lf_words.specs.Reading.{pairs, AreOptionWords}
use Rattle.lf_words.proofs.NameLaws.{verb_one, verb_cases, front_one, front_cases, dash_one, dash_cases}
use Rattle.lf_words.proofs.NumberLaws.{number_one, number_cases, jobs_one, jobs_cases}
use Rattle.lf_words.proofs.OptionLaws.{pairs_read, options_are_words, not_jobs, not_dash, options_cases}

-- One command of the verb has these words after the verb, or none has.
abbrev One : (List (List ℕ) → Command → Type 0) → Verb → List (List ℕ) → Type 0
One IsShape verb words =
    ((c : Command) × (c.verb ≡ verb) × IsShape words c × ((d : Command) → d.verb ≡ verb → IsShape words d → d ≡ c))
    ⊎ ((c : Command) → c.verb ≡ verb → IsShape words c → ⊥)

-- A side as it is given.
abbrev side : Front → List ℕ → List ℕ → List (List ℕ) → Side
side front format name options = record { front = front; format = format; narrow = value_of name (pairs options) }

abbrev narrow : List ℕ
narrow = codes "--narrow"

abbrev narrow_to : List ℕ
narrow_to = codes "--narrow-to"

abbrev jobs_in : List (List ℕ) → Option (List ℕ)
jobs_in options = value_of (codes "--jobs") (pairs options)

abbrev dash_in : List (List ℕ) → Option (List ℕ)
dash_in options = value_of (codes "--dash") (pairs options)

-- What is said by options is what stands in their words.
said_narrow : (name : List ℕ) (rest : List (List ℕ)) (os : List Given) (found : Option (List ℕ)) → rest ≡ option_words os → found ≡ value_of name os → found ≡ value_of name (pairs rest)
said_narrow name rest os found is e = e ∙ ap (λ (o : List Given). value_of name o) (sym (pairs_read rest os is))

said_jobs : (rest : List (List ℕ)) (os : List Given) (m n : ℕ) → rest ≡ option_words os → IsJobs (value_of (codes "--jobs") os) m → IsJobs (jobs_in rest) n → m ≡ n
said_jobs rest os m n is said j =
    jobs_one (jobs_in rest) m n (subst (λ o. IsJobs (value_of (codes "--jobs") o) m) (sym (pairs_read rest os is)) said) j

said_two : (rest : List (List ℕ)) (os : List Given) (a b : Bool) → rest ≡ option_words os → IsDash (value_of (codes "--dash") os) a → IsDash (dash_in rest) b → a ≡ b
said_two rest os a b is said d =
    dash_one (dash_in rest) a b (subst (λ o. IsDash (value_of (codes "--dash") o) a) (sym (pairs_read rest os is)) said) d

known_words : (verb v : Verb) (rest : List (List ℕ)) (os : List Given) → v ≡ verb → rest ≡ option_words os → AreOptionsOf v os → AreOptionWords verb rest
known_words verb v rest os e is known = options_are_words verb rest os is (subst (λ w. AreOptionsOf w os) e known)

-- FRONT FORMAT and options.
abbrev plain : Verb → Front → List ℕ → List (List ℕ) → ℕ → Bool → Command
plain verb front format rest jobs two = record { verb = verb; source = side front format narrow rest; target = None; map = None; seed = 0; count = 0; jobs = jobs; two = two }

plain_is : (verb : Verb) (a b : List ℕ) (rest : List (List ℕ)) (front : Front) (jobs : ℕ) (two : Bool) → a ≡ front_text front → AreOptionWords verb rest → IsJobs (jobs_in rest) jobs → IsDash (dash_in rest) two → IsPlain (a ∷ b ∷ rest) (plain verb front b rest jobs two)
plain_is verb a b rest front jobs two fe os j t = record {
  options = pairs rest;
  spelled = ap (λ (w : List ℕ). w ∷ b ∷ rest) fe ∙ ap (λ (w : List (List ℕ)). front_text front ∷ b ∷ w) os.0;
  says = record { known = os.1; narrow = refl; jobs = j; dash = t };
  target = refl;
  map = refl;
  seed = refl;
  count = refl;
}

plain_only : (verb : Verb) (a b : List ℕ) (rest : List (List ℕ)) (front : Front) (jobs : ℕ) (two : Bool) → a ≡ front_text front → IsJobs (jobs_in rest) jobs → IsDash (dash_in rest) two → (d : Command) → d.verb ≡ verb → IsPlain (a ∷ b ∷ rest) d → d ≡ plain verb front b rest jobs two
plain_only verb a b rest front jobs two fe j t d e h =
    let is : rest ≡ option_words h.options = (ap (λ (w : List (List ℕ)). drop 2 w) h.spelled) in
    let one : d.source.front ≡ front = front_one d.source.front front (sym (ap (λ (w : List (List ℕ)). get_or w 0 []) h.spelled) ∙ fe) in
    let format : d.source.format ≡ b = sym (ap (λ (w : List (List ℕ)). get_or w 1 []) h.spelled) in
    let narrowed : d.source.narrow ≡ value_of narrow (pairs rest) = said_narrow narrow rest h.options d.source.narrow is h.says.narrow in
    let many : d.jobs ≡ jobs = said_jobs rest h.options d.jobs jobs is h.says.jobs j in
    let apart : d.two ≡ two = said_two rest h.options d.two two is h.says.dash t in
    λ i. record { verb = e i; source = record { front = one i; format = format i; narrow = narrowed i }; target = h.target i; map = h.map i; seed = h.seed i; count = h.count i; jobs = many i; two = apart i }

plain_cases : (verb : Verb) (words : List (List ℕ)) → One IsPlain verb words
plain_cases verb [] = inr (λ c e h. let s : [] ≡ front_text c.source.front ∷ c.source.format ∷ option_words h.options = h.spelled in cc)
plain_cases verb (a ∷ []) = inr (λ c e h. let s : a ∷ [] ≡ front_text c.source.front ∷ c.source.format ∷ option_words h.options = h.spelled in cc)
plain_cases verb (a ∷ b ∷ rest) =
    elim (front_cases a) [
      | inr n ↦ inr (λ c e h. n c.source.front (ap (λ (w : List (List ℕ)). get_or w 0 []) h.spelled))
      | inl f ↦ elim (options_cases verb rest) [
        | inr n ↦ inr (λ c e h. n (known_words verb c.verb rest h.options e (ap (λ (w : List (List ℕ)). drop 2 w) h.spelled) h.says.known))
        | inl os ↦ elim (jobs_cases (jobs_in rest)) [
          | inr n ↦ inr (λ c e h. not_jobs rest h.options c.jobs (ap (λ (w : List (List ℕ)). drop 2 w) h.spelled) h.says.jobs n)
          | inl j ↦ elim (dash_cases (dash_in rest)) [
            | inr n ↦ inr (λ c e h. not_dash rest h.options c.two (ap (λ (w : List (List ℕ)). drop 2 w) h.spelled) h.says.dash n)
            | inl t ↦ inl (plain verb f.0 b rest j.0 t.0, refl, plain_is verb a b rest f.0 j.0 t.0 f.1 os j.1 t.1, plain_only verb a b rest f.0 j.0 t.0 f.1 j.1 t.1)
          ]
        ]
      ]
    ]

-- FRONT FORMAT FRONT FORMAT MAP and options.
abbrev translate : Front → List ℕ → Front → List ℕ → List ℕ → List (List ℕ) → ℕ → Bool → Command
translate front format front_to format_to by rest jobs two = record { verb = Translate; source = side front format narrow rest; target = Some (side front_to format_to narrow_to rest); map = Some by; seed = 0; count = 0; jobs = jobs; two = two }

translate_is : (a b p q by : List ℕ) (rest : List (List ℕ)) (front front_to : Front) (jobs : ℕ) (two : Bool) → a ≡ front_text front → p ≡ front_text front_to → AreOptionWords Translate rest → IsJobs (jobs_in rest) jobs → IsDash (dash_in rest) two → IsTranslate (a ∷ b ∷ p ∷ q ∷ by ∷ rest) (translate front b front_to q by rest jobs two)
translate_is a b p q by rest front front_to jobs two fe pe os j t = record {
  options = pairs rest;
  to = side front_to q narrow_to rest;
  by = by;
  spelled = ap (λ (w : List ℕ). w ∷ b ∷ p ∷ q ∷ by ∷ rest) fe ∙ ap (λ (w : List ℕ). front_text front ∷ b ∷ w ∷ q ∷ by ∷ rest) pe ∙ ap (λ (w : List (List ℕ)). front_text front ∷ b ∷ front_text front_to ∷ q ∷ by ∷ w) os.0;
  says = record { known = os.1; narrow = refl; jobs = j; dash = t };
  narrow_to = refl;
  target = refl;
  map = refl;
  seed = refl;
  count = refl;
}

translate_only : (a b p q by : List ℕ) (rest : List (List ℕ)) (front front_to : Front) (jobs : ℕ) (two : Bool) → a ≡ front_text front → p ≡ front_text front_to → IsJobs (jobs_in rest) jobs → IsDash (dash_in rest) two → (d : Command) → d.verb ≡ Translate → IsTranslate (a ∷ b ∷ p ∷ q ∷ by ∷ rest) d → d ≡ translate front b front_to q by rest jobs two
translate_only a b p q by rest front front_to jobs two fe pe j t d e h =
    let is : rest ≡ option_words h.options = (ap (λ (w : List (List ℕ)). drop 5 w) h.spelled) in
    let one : d.source.front ≡ front = front_one d.source.front front (sym (ap (λ (w : List (List ℕ)). get_or w 0 []) h.spelled) ∙ fe) in
    let format : d.source.format ≡ b = sym (ap (λ (w : List (List ℕ)). get_or w 1 []) h.spelled) in
    let narrowed : d.source.narrow ≡ value_of narrow (pairs rest) = said_narrow narrow rest h.options d.source.narrow is h.says.narrow in
    let one_to : h.to.front ≡ front_to = front_one h.to.front front_to (sym (ap (λ (w : List (List ℕ)). get_or w 2 []) h.spelled) ∙ pe) in
    let format_to : h.to.format ≡ q = sym (ap (λ (w : List (List ℕ)). get_or w 3 []) h.spelled) in
    let narrowed_to : h.to.narrow ≡ value_of narrow_to (pairs rest) = said_narrow narrow_to rest h.options h.to.narrow is h.narrow_to in
    let to : h.to ≡ side front_to q narrow_to rest = λ i. record { front = one_to i; format = format_to i; narrow = narrowed_to i } in
    let target : d.target ≡ Some (side front_to q narrow_to rest) = h.target ∙ ap (λ (t : Side). Some t) to in
    let map : d.map ≡ Some by = h.map ∙ ap (λ (t : List ℕ). Some t) (sym (ap (λ (w : List (List ℕ)). get_or w 4 []) h.spelled)) in
    let many : d.jobs ≡ jobs = said_jobs rest h.options d.jobs jobs is h.says.jobs j in
    let apart : d.two ≡ two = said_two rest h.options d.two two is h.says.dash t in
    λ i. record { verb = e i; source = record { front = one i; format = format i; narrow = narrowed i }; target = target i; map = map i; seed = h.seed i; count = h.count i; jobs = many i; two = apart i }

translate_cases : (words : List (List ℕ)) → One IsTranslate Translate words
translate_cases [] = inr (λ c e h. let s : [] ≡ front_text c.source.front ∷ c.source.format ∷ front_text h.to.front ∷ h.to.format ∷ h.by ∷ option_words h.options = h.spelled in cc)
translate_cases (a ∷ []) = inr (λ c e h. let s : a ∷ [] ≡ front_text c.source.front ∷ c.source.format ∷ front_text h.to.front ∷ h.to.format ∷ h.by ∷ option_words h.options = h.spelled in cc)
translate_cases (a ∷ b ∷ []) = inr (λ c e h. let s : a ∷ b ∷ [] ≡ front_text c.source.front ∷ c.source.format ∷ front_text h.to.front ∷ h.to.format ∷ h.by ∷ option_words h.options = h.spelled in cc)
translate_cases (a ∷ b ∷ p ∷ []) = inr (λ c e h. let s : a ∷ b ∷ p ∷ [] ≡ front_text c.source.front ∷ c.source.format ∷ front_text h.to.front ∷ h.to.format ∷ h.by ∷ option_words h.options = h.spelled in cc)
translate_cases (a ∷ b ∷ p ∷ q ∷ []) = inr (λ c e h. let s : a ∷ b ∷ p ∷ q ∷ [] ≡ front_text c.source.front ∷ c.source.format ∷ front_text h.to.front ∷ h.to.format ∷ h.by ∷ option_words h.options = h.spelled in cc)
translate_cases (a ∷ b ∷ p ∷ q ∷ by ∷ rest) =
    elim (front_cases a) [
      | inr n ↦ inr (λ c e h. n c.source.front (ap (λ (w : List (List ℕ)). get_or w 0 []) h.spelled))
      | inl f ↦ elim (front_cases p) [
        | inr n ↦ inr (λ c e h. n h.to.front (ap (λ (w : List (List ℕ)). get_or w 2 []) h.spelled))
        | inl g ↦ elim (options_cases Translate rest) [
          | inr n ↦ inr (λ c e h. n (known_words Translate c.verb rest h.options e (ap (λ (w : List (List ℕ)). drop 5 w) h.spelled) h.says.known))
          | inl os ↦ elim (jobs_cases (jobs_in rest)) [
            | inr n ↦ inr (λ c e h. not_jobs rest h.options c.jobs (ap (λ (w : List (List ℕ)). drop 5 w) h.spelled) h.says.jobs n)
            | inl j ↦ elim (dash_cases (dash_in rest)) [
              | inr n ↦ inr (λ c e h. not_dash rest h.options c.two (ap (λ (w : List (List ℕ)). drop 5 w) h.spelled) h.says.dash n)
              | inl t ↦ inl (translate f.0 b g.0 q by rest j.0 t.0, refl, translate_is a b p q by rest f.0 g.0 j.0 t.0 f.1 g.1 os j.1 t.1, translate_only a b p q by rest f.0 g.0 j.0 t.0 f.1 g.1 j.1 t.1)
            ]
          ]
        ]
      ]
    ]

-- FRONT FORMAT SEED COUNT and options.
abbrev most_seed : ℕ
most_seed = 0xffff_ffff_ffff_ffff

abbrev most_count : ℕ
most_count = 1_000_000

abbrev gen : Front → List ℕ → ℕ → ℕ → List (List ℕ) → ℕ → Bool → Command
gen front format seed count rest jobs two = record { verb = Gen; source = side front format narrow rest; target = None; map = None; seed = seed; count = count; jobs = jobs; two = two }

gen_is : (a b s t : List ℕ) (rest : List (List ℕ)) (front : Front) (seed count jobs : ℕ) (two : Bool) → a ≡ front_text front → IsNumber most_seed s seed → IsNumber most_count t count → AreOptionWords Gen rest → IsJobs (jobs_in rest) jobs → IsDash (dash_in rest) two → IsGen (a ∷ b ∷ s ∷ t ∷ rest) (gen front b seed count rest jobs two)
gen_is a b s t rest front seed count jobs two fe se ce os j u = record {
  options = pairs rest;
  seed_text = s;
  count_text = t;
  spelled = ap (λ (w : List ℕ). w ∷ b ∷ s ∷ t ∷ rest) fe ∙ ap (λ (w : List (List ℕ)). front_text front ∷ b ∷ s ∷ t ∷ w) os.0;
  says = record { known = os.1; narrow = refl; jobs = j; dash = u };
  target = refl;
  map = refl;
  seed = se;
  count = ce;
}

gen_only : (a b s t : List ℕ) (rest : List (List ℕ)) (front : Front) (seed count jobs : ℕ) (two : Bool) → a ≡ front_text front → IsNumber most_seed s seed → IsNumber most_count t count → IsJobs (jobs_in rest) jobs → IsDash (dash_in rest) two → (d : Command) → d.verb ≡ Gen → IsGen (a ∷ b ∷ s ∷ t ∷ rest) d → d ≡ gen front b seed count rest jobs two
gen_only a b s t rest front seed count jobs two fe se ce j u d e h =
    let is : rest ≡ option_words h.options = (ap (λ (w : List (List ℕ)). drop 4 w) h.spelled) in
    let one : d.source.front ≡ front = front_one d.source.front front (sym (ap (λ (w : List (List ℕ)). get_or w 0 []) h.spelled) ∙ fe) in
    let format : d.source.format ≡ b = sym (ap (λ (w : List (List ℕ)). get_or w 1 []) h.spelled) in
    let narrowed : d.source.narrow ≡ value_of narrow (pairs rest) = said_narrow narrow rest h.options d.source.narrow is h.says.narrow in
    let seed_fits : most_seed < 2 ^ 64 = omega arith in
    let count_fits : most_count < 2 ^ 64 = omega arith in
    let seed_is : d.seed ≡ seed = number_one most_seed s d.seed seed seed_fits (subst (λ x. IsNumber most_seed x d.seed) (sym (ap (λ (w : List (List ℕ)). get_or w 2 []) h.spelled)) h.seed) se in
    let count_is : d.count ≡ count = number_one most_count t d.count count count_fits (subst (λ x. IsNumber most_count x d.count) (sym (ap (λ (w : List (List ℕ)). get_or w 3 []) h.spelled)) h.count) ce in
    let many : d.jobs ≡ jobs = said_jobs rest h.options d.jobs jobs is h.says.jobs j in
    let apart : d.two ≡ two = said_two rest h.options d.two two is h.says.dash u in
    λ i. record { verb = e i; source = record { front = one i; format = format i; narrow = narrowed i }; target = h.target i; map = h.map i; seed = seed_is i; count = count_is i; jobs = many i; two = apart i }

gen_cases : (words : List (List ℕ)) → One IsGen Gen words
gen_cases [] = inr (λ c e h. let x : [] ≡ front_text c.source.front ∷ c.source.format ∷ h.seed_text ∷ h.count_text ∷ option_words h.options = h.spelled in cc)
gen_cases (a ∷ []) = inr (λ c e h. let x : a ∷ [] ≡ front_text c.source.front ∷ c.source.format ∷ h.seed_text ∷ h.count_text ∷ option_words h.options = h.spelled in cc)
gen_cases (a ∷ b ∷ []) = inr (λ c e h. let x : a ∷ b ∷ [] ≡ front_text c.source.front ∷ c.source.format ∷ h.seed_text ∷ h.count_text ∷ option_words h.options = h.spelled in cc)
gen_cases (a ∷ b ∷ s ∷ []) = inr (λ c e h. let x : a ∷ b ∷ s ∷ [] ≡ front_text c.source.front ∷ c.source.format ∷ h.seed_text ∷ h.count_text ∷ option_words h.options = h.spelled in cc)
gen_cases (a ∷ b ∷ s ∷ t ∷ rest) =
    let seed_fits : most_seed < 2 ^ 64 = omega arith in
    let count_fits : most_count < 2 ^ 64 = omega arith in
    elim (front_cases a) [
      | inr n ↦ inr (λ c e h. n c.source.front (ap (λ (w : List (List ℕ)). get_or w 0 []) h.spelled))
      | inl f ↦ elim (number_cases most_seed s seed_fits) [
        | inr n ↦ inr (λ c e h. n c.seed (subst (λ x. IsNumber most_seed x c.seed) (sym (ap (λ (w : List (List ℕ)). get_or w 2 []) h.spelled)) h.seed))
        | inl x ↦ elim (number_cases most_count t count_fits) [
          | inr n ↦ inr (λ c e h. n c.count (subst (λ x. IsNumber most_count x c.count) (sym (ap (λ (w : List (List ℕ)). get_or w 3 []) h.spelled)) h.count))
          | inl y ↦ elim (options_cases Gen rest) [
            | inr n ↦ inr (λ c e h. n (known_words Gen c.verb rest h.options e (ap (λ (w : List (List ℕ)). drop 4 w) h.spelled) h.says.known))
            | inl os ↦ elim (jobs_cases (jobs_in rest)) [
              | inr n ↦ inr (λ c e h. not_jobs rest h.options c.jobs (ap (λ (w : List (List ℕ)). drop 4 w) h.spelled) h.says.jobs n)
              | inl j ↦ elim (dash_cases (dash_in rest)) [
                | inr n ↦ inr (λ c e h. not_dash rest h.options c.two (ap (λ (w : List (List ℕ)). drop 4 w) h.spelled) h.says.dash n)
                | inl u ↦ inl (gen f.0 b x.0 y.0 rest j.0 u.0, refl, gen_is a b s t rest f.0 x.0 y.0 j.0 u.0 f.1 x.1 y.1 os j.1 u.1, gen_only a b s t rest f.0 x.0 y.0 j.0 u.0 f.1 x.1 y.1 j.1 u.1)
              ]
            ]
          ]
        ]
      ]
    ]

tail_cases : (verb : Verb) (words : List (List ℕ)) → One (IsTail verb) verb words
tail_cases Check words = plain_cases Check words
tail_cases Read words = plain_cases Read words
tail_cases Write words = plain_cases Write words
tail_cases Translate words = translate_cases words
tail_cases Show words = plain_cases Show words
tail_cases Gen words = gen_cases words

-- The verb and what follows it, of a command that the words are.
verb_of_command : (a : List ℕ) (rest : List (List ℕ)) (verb : Verb) (d : Command) → a ≡ verb_text verb → IsCommand (a ∷ rest) d → (d.verb ≡ verb) × IsTail verb rest d
verb_of_command a rest verb d e h =
    let same : d.verb ≡ verb = verb_one d.verb verb (sym (ap (λ (w : List (List ℕ)). get_or w 0 []) h.spelled) ∙ e) in
    let tail : rest ≡ h.tail = ap (λ (w : List (List ℕ)). drop 1 w) h.spelled in
    (same, subst (λ v. IsTail v rest d) same (subst (λ w. IsTail d.verb w d) (sym tail) h.follows))

one_command : (a : List ℕ) (rest : List (List ℕ)) (verb : Verb) → a ≡ verb_text verb → list_all is_word (a ∷ rest) ≡ true → One (IsTail verb) verb rest → IsOneCommandOrBad (a ∷ rest)
one_command a rest verb e short (inl x) =
    let spelled : a ∷ rest ≡ verb_text x.0.verb ∷ rest = ap (λ (w : List ℕ). w ∷ rest) e ∙ ap (λ v. verb_text v ∷ rest) (sym x.1) in
    let follows : IsTail x.0.verb rest x.0 = subst (λ v. IsTail v rest x.0) (sym x.1) x.2 in
    inl (x.0, record { tail = rest; spelled = spelled; each = short; follows = follows }, λ d h. let p = verb_of_command a rest verb d e h in x.3 d p.0 p.1)
one_command a rest verb e short (inr n) = inr (λ d h. let p = verb_of_command a rest verb d e h in n d p.0 p.1)

pub one_command_or_bad : (words : List (List ℕ)) → IsOneCommandOrBad words
one_command_or_bad [] = inr (λ d h. let e : [] ≡ verb_text d.verb ∷ h.tail = h.spelled in cc)
one_command_or_bad (a ∷ rest) =
    elim (cases_Bool (list_all is_word (a ∷ rest))) [
      | inr long ↦ inr (λ d h. let f : true ≡ false = sym h.each ∙ long in absurd (cc))
      | inl short ↦ elim (verb_cases a) [
        | inr n ↦ inr (λ d h. n d.verb (ap (λ (w : List (List ℕ)). get_or w 0 []) h.spelled))
        | inl v ↦ one_command a rest v.0 v.1 short (tail_cases v.0 rest)
      ]
    ]
