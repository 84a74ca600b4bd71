-- The text of the data types is read line by line, and gives these types.
use Rattle.std.proofs.Common.{◌≡◌, ℕ, List, [], ◌∷◌, Option, Some, refl, subst, arith}
use Rattle.std.specs.Prelude.{codes}
use Rattle.std.specs.Fmt.{digits}
use Rattle.dsdl_text.specs.declared.line.Line.{Line}
use Rattle.dsdl_text_codec_laws.specs.declared.text.TheConstants.{PROFILE}
use Rattle.dsdl_text.specs.Layout.{Layout}
use Rattle.dsdl_text.specs.Sections.{part_named}
use Rattle.dsdl_text.specs.Text.{TakesLines, Text, no_text, types_in}
use Rattle.dsdl_text.specs.Words.{words}
use Rattle.dsdl_text.proofs.OneLine.{one_line}
use Rattle.dsdl_text.proofs.Taking.{one_text}
use Rattle.dsdl_text_codec_laws.specs.Laws.{GiveNumbers}
use Rattle.dsdl_text_codec_laws.specs.Published.{profile_lines}
use Rattle.dsdl_text_codec_laws.specs.Profile.{IsText, PartGivesNumbers, ReadAs, lines_of, profile}

-- each line reads so
pub profile_read : ReadAs profile_lines (lines_of PROFILE.now)
unfolding digits
profile_read = (
  (refl, refl),
  (
    (refl, refl, tt, refl),
    (
      (refl, refl, (omega arith, omega arith), refl),
      (
        (refl, omega arith, omega arith),
        (
          (refl, refl, tt, refl),
          (
            (refl, refl),
            (
              (codes "1000", refl, refl, refl, (omega arith, refl)),
              (
                (refl, refl, tt, refl),
                (
                  (refl, refl, tt, refl),
                  (
                    (refl, refl, (omega arith, omega arith), refl),
                    (
                      (refl, refl),
                      (
                        (refl, refl, tt, refl),
                        (
                          (refl, refl, (omega arith, omega arith), refl),
                          (
                            (refl, refl),
                            (
                              (refl, refl, tt, refl),
                              (
                                (refl, refl, tt, refl),
                                (
                                  (refl, refl, tt, refl),
                                  (
                                    (refl, refl, tt, refl),
                                    (
                                      (refl, refl, (omega arith, omega arith), refl),
                                      (
                                        refl,
                                        (
                                          (refl, refl, tt, refl),
                                          (
                                            (refl, refl, tt, refl),
                                            (
                                              (refl, refl),
                                              (
                                                (refl, refl, tt, refl),
                                                (
                                                  (refl, refl, tt, refl),
                                                  (
                                                    (refl, refl, tt, refl),
                                                    (
                                                      refl,
                                                      (
                                                        (refl, refl, tt, refl),
                                                        (
                                                          (refl, refl, tt, refl),
                                                          (
                                                            (refl, refl),
                                                            (
                                                              (refl, refl, tt, refl),
                                                              (
                                                                (refl, refl, tt, refl),
                                                                (
                                                                  (refl, refl, tt, refl),
                                                                  (
                                                                    (refl, refl, tt, refl),
                                                                    (
                                                                      (refl, refl, tt, refl),
                                                                      (
                                                                        (refl, refl),
                                                                        (
                                                                          (refl, refl, tt, refl),
                                                                          (
                                                                            (refl, refl, tt, refl),
                                                                            (
                                                                              (refl, refl, tt, refl),
                                                                              (
                                                                                (refl, refl, tt, refl),
                                                                                (
                                                                                  (refl, refl, tt, refl),
                                                                                  (
                                                                                    (refl, refl),
                                                                                    (
                                                                                      (refl, refl, tt, refl),
                                                                                      (
                                                                                        (refl, refl, tt, refl),
                                                                                        (
                                                                                          (refl, refl, (omega arith, omega arith), refl),
                                                                                          (
                                                                                            (refl, refl, (omega arith, omega arith), refl),
                                                                                            (
                                                                                              (refl, refl),
                                                                                              (
                                                                                                refl,
                                                                                                (
                                                                                                  (refl, refl, tt, refl),
                                                                                                  (
                                                                                                    (refl, refl, tt, refl),
                                                                                                    (
                                                                                                      (refl, refl, tt, refl),
                                                                                                      (
                                                                                                        (refl, refl, (omega arith, omega arith), refl),
                                                                                                        (refl, tt),
                                                                                                      ),
                                                                                                    ),
                                                                                                  ),
                                                                                                ),
                                                                                              ),
                                                                                            ),
                                                                                          ),
                                                                                        ),
                                                                                      ),
                                                                                    ),
                                                                                  ),
                                                                                ),
                                                                              ),
                                                                            ),
                                                                          ),
                                                                        ),
                                                                      ),
                                                                    ),
                                                                  ),
                                                                ),
                                                              ),
                                                            ),
                                                          ),
                                                        ),
                                                      ),
                                                    ),
                                                  ),
                                                ),
                                              ),
                                            ),
                                          ),
                                        ),
                                      ),
                                    ),
                                  ),
                                ),
                              ),
                            ),
                          ),
                        ),
                      ),
                    ),
                  ),
                ),
              ),
            ),
          ),
        ),
      ),
    ),
  ),
)

-- and has no fault
profile_taken : TakesLines no_text profile_lines profile
profile_taken = (refl, (refl, (refl, (refl, (refl, (refl, (refl, (refl, (refl, (refl, (refl, (refl, (refl, (refl, (refl, (refl, (refl, (refl, (refl, (refl, (refl, (refl, (refl, (refl, (refl, (refl, (refl, (refl, (refl, (refl, (refl, (refl, (refl, (refl, (refl, (refl, (refl, (refl, (refl, (refl, (refl, (refl, (refl, (refl, (refl, (refl, (refl, (refl, (refl, (refl, (refl, (refl, (refl, refl)))))))))))))))))))))))))))))))))))))))))))))))))))))

pub is_profile : IsText PROFILE.now profile
is_profile = record { lines = profile_lines; read = profile_read; taken = profile_taken }

-- lines of bytes are read one way
one_reading : (a b : List Line) (parts : List (List ℕ)) → ReadAs a parts → ReadAs b parts → a ≡ b
one_reading [] [] [] x y = refl
one_reading [] [] (part ∷ parts) x y = absurd x
one_reading [] (m ∷ b) [] x y = absurd y
one_reading [] (m ∷ b) (part ∷ parts) x y = absurd x
one_reading (l ∷ a) b [] x y = absurd x
one_reading (l ∷ a) [] (part ∷ parts) x y = absurd y
one_reading (l ∷ a) (m ∷ b) (part ∷ parts) x y =
    let line = one_line l m (words part) x.0 y.0 in
    let more = one_reading a b parts x.1 y.1 in cc

-- bytes are one text at most
pub one_text_of : (bytes : List ℕ) (a b : Text) → IsText bytes a → IsText bytes b → a ≡ b
one_text_of bytes a b x y =
    let same = one_reading x.lines y.lines (lines_of bytes) x.read y.read in
    one_text no_text a b y.lines (subst (λ lines. TakesLines no_text lines a) same x.taken) y.taken

-- what is shown of the fields holds under each text that the profile is
pub of_profile : {T : Type 0} (name : List ℕ) (part : ℕ) (fields : List Layout) (numbers : T → List ℕ) (value_of : List ℕ → Option T)
    → part_named (types_in profile) name part ≡ Some fields → GiveNumbers fields numbers value_of
    → (text : Text) → IsText PROFILE.now text → PartGivesNumbers text name part numbers value_of
of_profile name part fields numbers value_of found give text is =
    subst (λ t. PartGivesNumbers t name part numbers value_of) (one_text_of PROFILE.now profile text is_profile is)
    (record { fields = fields; found = found; give = give })
