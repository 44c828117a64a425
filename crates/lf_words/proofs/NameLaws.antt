-- Each verb, each front and each value of a lone dash has a word of its own.
use Rattle.std.proofs.Common.{◌≡◌, ℕ, List, Bool, true, false, Option, None, Some, cond, codes, refl, sym, ◌∙◌, ap}
use Rattle.std.specs.Prelude.{bytes_eq, ◌⊎◌}
use Rattle.std.proofs.Common.{inl, inr}
use Rattle.std.proofs.lemmas.Bool.{cases_Bool}
use Rattle.std.proofs.lemmas.Slice.Eq.{bytes_eq-Decides}
use Rattle.lf_words.specs.declared.command.Verb.{Verb}
use Rattle.lf_words.specs.declared.command.Verb.TheVariants.{Check, Read, Write, Translate, Show, Gen}
use Rattle.lf_words.specs.declared.command.Front.{Front}
use Rattle.lf_words.specs.declared.command.Front.TheVariants.{Apache, Nginx, NginxJson, NginxNone, NginxDirective, Haproxy, Envoy, W3c, Iis}
use Rattle.lf_words.specs.Command.{verb_text, front_text, dash_text, IsDash}
use Rattle.lf_words.specs.Reading.{NamesNoVerb, NamesNoFront, IsNoDash}

-- Two texts are the same or not.
pub same_or_not : (x y : List ℕ) → (x ≡ y) ⊎ (x ≡ y → ⊥)
same_or_not x y = elim (cases_Bool (bytes_eq x y)) [ inl t ↦ inl ((bytes_eq-Decides x y).0 t) | inr f ↦ inr (λ e. let t : bytes_eq x y ≡ true = (bytes_eq-Decides x y).1 e in absurd (cc)) ]

abbrev verb_at : List ℕ → Verb
verb_at word =
    cond (bytes_eq word (codes "check")) Check
    (cond (bytes_eq word (codes "read")) Read
    (cond (bytes_eq word (codes "write")) Write
    (cond (bytes_eq word (codes "translate")) Translate
    (cond (bytes_eq word (codes "show")) Show Gen))))

verb_back : (verb : Verb) → verb_at (verb_text verb) ≡ verb
verb_back Check = refl
verb_back Read = refl
verb_back Write = refl
verb_back Translate = refl
verb_back Show = refl
verb_back Gen = refl

pub verb_one : (v w : Verb) → verb_text v ≡ verb_text w → v ≡ w
verb_one v w e = sym (verb_back v) ∙ ap verb_at e ∙ verb_back w

pub verb_cases : (word : List ℕ) → ((verb : Verb) × (word ≡ verb_text verb)) ⊎ NamesNoVerb word
verb_cases word =
    elim (same_or_not word (codes "check")) [
      | inl e ↦ inl (Check, e)
      | inr a ↦
          elim (same_or_not word (codes "read")) [
            | inl e ↦ inl (Read, e)
            | inr b ↦
                elim (same_or_not word (codes "write")) [
                  | inl e ↦ inl (Write, e)
                  | inr c ↦
                      elim (same_or_not word (codes "translate")) [
                        | inl e ↦ inl (Translate, e)
                        | inr d ↦
                            elim (same_or_not word (codes "show")) [
                              | inl e ↦ inl (Show, e)
                              | inr f ↦
                                  elim (same_or_not word (codes "gen")) [
                                    | inl e ↦ inl (Gen, e)
                                    | inr g ↦
                                        inr (λ verb. elim verb as (λ v. word ≡ verb_text v → ⊥) [ Check ↦ a | Read ↦ b | Write ↦ c | Translate ↦ d | Show ↦ f | Gen ↦ g ])
                                  ]
                            ]
                      ]
                ]
          ]
    ]

abbrev front_at : List ℕ → Front
front_at word =
    cond (bytes_eq word (codes "apache")) Apache
    (cond (bytes_eq word (codes "nginx")) Nginx
    (cond (bytes_eq word (codes "nginx-json")) NginxJson
    (cond (bytes_eq word (codes "nginx-none")) NginxNone
    (cond (bytes_eq word (codes "nginx-directive")) NginxDirective
    (cond (bytes_eq word (codes "haproxy")) Haproxy
    (cond (bytes_eq word (codes "envoy")) Envoy
    (cond (bytes_eq word (codes "w3c")) W3c Iis)))))))

front_back : (front : Front) → front_at (front_text front) ≡ front
front_back Apache = refl
front_back Nginx = refl
front_back NginxJson = refl
front_back NginxNone = refl
front_back NginxDirective = refl
front_back Haproxy = refl
front_back Envoy = refl
front_back W3c = refl
front_back Iis = refl

pub front_one : (f g : Front) → front_text f ≡ front_text g → f ≡ g
front_one f g e = sym (front_back f) ∙ ap front_at e ∙ front_back g

pub front_cases : (word : List ℕ) → ((front : Front) × (word ≡ front_text front)) ⊎ NamesNoFront word
front_cases word =
    elim (same_or_not word (codes "apache")) [
      | inl e ↦ inl (Apache, e)
      | inr a ↦
          elim (same_or_not word (codes "nginx")) [
            | inl e ↦ inl (Nginx, e)
            | inr b ↦
                elim (same_or_not word (codes "nginx-json")) [
                  | inl e ↦ inl (NginxJson, e)
                  | inr c ↦
                      elim (same_or_not word (codes "nginx-none")) [
                        | inl e ↦ inl (NginxNone, e)
                        | inr d ↦
                            elim (same_or_not word (codes "nginx-directive")) [
                              | inl e ↦ inl (NginxDirective, e)
                              | inr f ↦
                                  elim (same_or_not word (codes "haproxy")) [
                                    | inl e ↦ inl (Haproxy, e)
                                    | inr g ↦
                                        elim (same_or_not word (codes "envoy")) [
                                          | inl e ↦ inl (Envoy, e)
                                          | inr h ↦
                                              elim (same_or_not word (codes "w3c")) [
                                                | inl e ↦ inl (W3c, e)
                                                | inr i ↦
                                                    elim (same_or_not word (codes "iis")) [
                                                      | inl e ↦ inl (Iis, e)
                                                      | inr j ↦
                                                          inr (λ front. elim front as (λ v. word ≡ front_text v → ⊥) [ Apache ↦ a | Nginx ↦ b | NginxJson ↦ c | NginxNone ↦ d | NginxDirective ↦ f | Haproxy ↦ g | Envoy ↦ h | W3c ↦ i | Iis ↦ j ])
                                                    ]
                                              ]
                                        ]
                                  ]
                            ]
                      ]
                ]
          ]
    ]

abbrev two_at : List ℕ → Bool
two_at word = bytes_eq word (codes "two")

two_back : (two : Bool) → two_at (dash_text two) ≡ two
two_back true = refl
two_back false = refl

pub dash_one : (value : Option (List ℕ)) (a b : Bool) → IsDash value a → IsDash value b → a ≡ b
dash_one None a b p q = p ∙ sym q
dash_one (Some text) a b p q = sym (two_back a) ∙ ap two_at (sym p ∙ q) ∙ two_back b

pub dash_cases : (value : Option (List ℕ)) → ((two : Bool) × IsDash value two) ⊎ IsNoDash value
dash_cases None = inl (false, refl)
dash_cases (Some text) =
    elim (same_or_not text (codes "one")) [
      | inl e ↦ inl (false, e)
      | inr a ↦ elim (same_or_not text (codes "two")) [
        | inl e ↦ inl (true, e)
        | inr b ↦ inr (λ two. elim two as (λ t. text ≡ dash_text t → ⊥) [ true ↦ b | false ↦ a ])
      ]
    ]
