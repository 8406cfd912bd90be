pub mod MentionLemmas
