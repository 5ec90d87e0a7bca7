-- An operation on the codes below q, at every number: each argument is first taken modulo q. So its laws hold with no condition.
use Rattle.std.proofs.Common.{◌≡◌, ℕ, ◌%◌, ◌<◌, sym, ap, ◌∙◌, mod-lt, mod-eq_of_lt}

-- f at the remainders
unfoldable pub on : ℕ → (ℕ → ℕ → ℕ) → ℕ → ℕ → ℕ
on q f a b = f (a % q) (b % q)

module _ (q : ℕ) (pos : 0 < q) (f : ℕ → ℕ → ℕ) (closed : (a b : ℕ) → a < q → b < q → f a b < q) where
  lo : (a : ℕ) → a % q < q
  lo a = mod-lt a pos

  pub on_low : (a b : ℕ) → on q f a b < q
  unfolding on
  on_low a b = closed (a % q) (b % q) (lo a) (lo b)

  pub on_at : (a b : ℕ) → a < q → b < q → f a b ≡ on q f a b
  unfolding on
  on_at a b ha hb = sym (ap (λ x. f x (b % q)) (mod-eq_of_lt ha) ∙ ap (f a) (mod-eq_of_lt hb))

  pub on_comm : ((a b : ℕ) → a < q → b < q → f a b ≡ f b a) → (a b : ℕ) → on q f a b ≡ on q f b a
  unfolding on
  on_comm comm a b = comm (a % q) (b % q) (lo a) (lo b)

  pub on_assoc : ((a b c : ℕ) → a < q → b < q → c < q → f (f a b) c ≡ f a (f b c)) → (a b c : ℕ) → on q f (on q f a b) c ≡ on q f a (on q f b c)
  unfolding on
  on_assoc assoc a b c =
      ap (λ x. f x (c % q)) (mod-eq_of_lt (closed _ _ (lo a) (lo b))) ∙ assoc (a % q) (b % q) (c % q) (lo a) (lo b) (lo c)
      ∙ sym (ap (f (a % q)) (mod-eq_of_lt (closed _ _ (lo b) (lo c))))

pub on_distributes : (q : ℕ) → 0 < q → (f g : ℕ → ℕ → ℕ) →
    ((a b : ℕ) → a < q → b < q → f a b < q) → ((a b : ℕ) → a < q → b < q → g a b < q) →
    ((a b c : ℕ) → a < q → b < q → c < q → g a (f b c) ≡ f (g a b) (g a c)) →
    (a b c : ℕ) → on q g a (on q f b c) ≡ on q f (on q g a b) (on q g a c)
unfolding on
on_distributes q pos f g fc gc d a b c =
    let lo : (x : ℕ) → x % q < q = λ x. mod-lt x pos in
    ap (g (a % q)) (mod-eq_of_lt (fc _ _ (lo b) (lo c))) ∙ d (a % q) (b % q) (c % q) (lo a) (lo b) (lo c)
    ∙ sym (ap (λ x. f x (g (a % q) (c % q) % q)) (mod-eq_of_lt (gc _ _ (lo a) (lo b))) ∙ ap (f (g (a % q) (b % q))) (mod-eq_of_lt (gc _ _ (lo a) (lo c))))
