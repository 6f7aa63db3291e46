pub mod EvalLaws
